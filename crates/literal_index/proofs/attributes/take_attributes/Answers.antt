use Rattle.std.proofs.Common.{slice_get}
use Rattle.ad_tree.specs.Ad.{ad_frames}
use Rattle.ad_tree.specs.Frames.{attributes_at}
use Rattle.ad_tree.specs.Tree.{tree}
use Rattle.literal_index.proofs.ChangeLemmas.{attribute, taken-more}
use Rattle.literal_index.proofs.attributes.take_attributes.Goals as goal

pub loop-attr-preserved : goal.loop-attr-preserved
loop-attr-preserved c =
    let attrs = attributes_at (ad_frames c.args.ad.now) 0 in
    taken-more c.args.slot c.loop-attr.attr attrs (c.name.result.now, tree c.expr.result.now)
    (attribute (slice_get attrs c.loop-attr.attr) c.name.result.now (tree c.expr.result.now) c.name.ensures c.expr.ensures)
    c.args.entries.now c.loop-attr.entries c.take_attribute.new.entries c.loop-attr.invariant c.take_attribute.ensures
