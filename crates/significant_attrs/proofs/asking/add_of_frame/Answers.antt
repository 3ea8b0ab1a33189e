use Rattle.std.proofs.Common.{refl}
use Rattle.ad_tree.specs.Ad.{ad_frames}
use Rattle.ad_tree.specs.Frames.{attributes_at}
use Rattle.ad_tree.specs.Tree.{tree}
use Rattle.significant_attrs.specs.Names.{asked_in, asked_in_attributes}
use Rattle.significant_attrs.proofs.AddLemmas.{attribute-added}
use Rattle.significant_attrs.proofs.asking.add_of_frame.Goals as goal

pub loop-attr-preserved : goal.loop-attr-preserved
loop-attr-preserved c =
    attribute-added asked_in_attributes asked_in (λ a rest. refl) (attributes_at (ad_frames c.args.ad.now) c.args.frame) c.loop-attr.attr
    (tree c.expr.result.now) c.loop-attr.names c.add_of.new.names _
    c.expr.ensures c.in_ok-add_of.ensures c.loop-attr.invariant
