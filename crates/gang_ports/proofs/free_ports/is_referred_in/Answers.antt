use Rattle.std.proofs.Common.{sym, ◌∙◌}
use Rattle.ad_tree.specs.Ad.{ad_frames}
use Rattle.ad_tree.specs.Frames.{attributes_at}
use Rattle.ad_tree.specs.Tree.{tree}
use Rattle.gang_ports.proofs.ReferenceLemmas.{attribute-found, attribute-next}
use Rattle.gang_ports.proofs.free_ports.is_referred_in.Goals as goal

pub returns-then-refers : goal.returns-then-refers
returns-then-refers c =
    attribute-found c.args.label.now (attributes_at (ad_frames c.args.ad.now) c.args.frame) c.loop-attr.attr c.loop-attr.invariant (tree c.expr.result.now)
    c.expr.ensures (sym c.if-refers.true ∙ c.refers.ensures)

pub loop-attr-preserved : goal.loop-attr-preserved
loop-attr-preserved c =
    attribute-next c.args.label.now (attributes_at (ad_frames c.args.ad.now) c.args.frame) c.loop-attr.attr c.loop-attr.invariant (tree c.expr.result.now)
    c.expr.ensures (sym c.if-refers.false ∙ c.refers.ensures)
