use Rattle.std.proofs.Common.{◌∙◌}
use Rattle.std.proofs.Common.{slice_get}
use Rattle.ad_tree.specs.Ad.{ad_frames}
use Rattle.ad_tree.specs.Frames.{attributes_at}
use Rattle.ad_tree.specs.Tree.{tree}
use Rattle.literal_index.proofs.ChangeLemmas.{attribute, put-more, undone}
use Rattle.literal_index.proofs.attributes.put_attributes.Goals as goal

pub returns-in-Err-clause-err : goal.returns-in-Err-clause-err
returns-in-Err-clause-err c empty =
    undone c.loop-attr.attr c.args.slot (attributes_at (ad_frames c.args.ad.now) 0) c.args.entries.now c.put_attribute.new.entries c.take_attributes.new.entries
    (λ q. c.in-Err.ensures.err q ∙ c.loop-attr.invariant q) c.take_attributes.ensures empty

pub loop-attr-preserved : goal.loop-attr-preserved
loop-attr-preserved c =
    let attrs = attributes_at (ad_frames c.args.ad.now) 0 in
    put-more c.args.slot c.loop-attr.attr attrs (c.name.result.now, tree c.expr.result.now)
    (attribute (slice_get attrs c.loop-attr.attr) c.name.result.now (tree c.expr.result.now) c.name.ensures c.expr.ensures)
    c.args.entries.now c.loop-attr.entries c.put_attribute.new.entries c.loop-attr.invariant c.in_default.ensures.ok
