use Rattle.std.proofs.Common.{◌≡◌, false, length}
use Rattle.script_tests.proofs.scripts.read_commands.Given as goal

abbrev pub invariant-loop-left : goal.invariant-loop-left
invariant-loop-left l = l.script.over ≡ false

abbrev pub decreases-loop-left : goal.decreases-loop-left
decreases-loop-left l = length l.left
