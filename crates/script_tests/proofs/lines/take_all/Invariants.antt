use Rattle.std.proofs.Common.{◌≡◌, length}
use Rattle.script_tests.proofs.lines.take_all.Given as goal

abbrev pub invariant-loop-line : goal.invariant-loop-line
invariant-loop-line l = l.lines.over ≡ l.initial.lines.over

abbrev pub decreases-loop-line : goal.decreases-loop-line
decreases-loop-line l = length l.lines.waiting
