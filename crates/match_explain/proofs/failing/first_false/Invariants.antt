use Rattle.std.proofs.Common.{◌≡◌, None, take}
use Rattle.match_explain.specs.Why.{first_failing}
use Rattle.match_explain.proofs.failing.first_false.Given as goal

abbrev pub invariant-loop-i : goal.invariant-loop-i
invariant-loop-i l = first_failing (λ b. b) (take l.i l.truths) ≡ None
