use Rattle.std.proofs.Common.{◌∙◌, ap₂, refl}
use Rattle.pool_text.specs.Folding.{text_order}
use Rattle.pool_text.proofs.LaneLemmas.{order_behind}
use Rattle.pool_text.proofs.folding.order_folded.Goals as goal

pub loop-left-preserved : goal.loop-left-preserved
loop-left-preserved c =
    ap₂ text_order c.behind_lanes-left.ensures c.behind_lanes-right.ensures ∙ order_behind 16 _ _ (c.if-begin_alike.ensures refl) ∙ c.loop-left.invariant
