use Rattle.std.proofs.Common.{◌≡◌, length}
use Rattle.script_tests.proofs.scripts.take_all.Given as goal

abbrev pub invariant-loop-kind : goal.invariant-loop-kind
invariant-loop-kind l = l.script.over ≡ l.initial.script.over

abbrev pub decreases-loop-kind : goal.decreases-loop-kind
decreases-loop-kind l = length l.script.waiting
