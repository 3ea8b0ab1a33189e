use Rattle.std.proofs.Common.{◌≡◌, ◌↔◌, length}
use Rattle.pool_text.specs.Folding.{folded}
use Rattle.pool_text.proofs.folding.have_same_letters.Given as goal

abbrev pub invariant-loop-left : goal.invariant-loop-left
invariant-loop-left l = (folded l.left ≡ folded l.right) ↔ (folded l.a ≡ folded l.b)

abbrev pub decreases-loop-left : goal.decreases-loop-left
decreases-loop-left l = length l.left
