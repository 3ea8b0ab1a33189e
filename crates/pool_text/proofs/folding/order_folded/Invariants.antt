use Rattle.std.proofs.Common.{◌≡◌, length}
use Rattle.pool_text.specs.Folding.{text_order}
use Rattle.pool_text.proofs.folding.order_folded.Given as goal

abbrev pub invariant-loop-left : goal.invariant-loop-left
invariant-loop-left l = text_order l.left l.right ≡ text_order l.a l.b

abbrev pub decreases-loop-left : goal.decreases-loop-left
decreases-loop-left l = length l.left
