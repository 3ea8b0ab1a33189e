use Rattle.std.proofs.Common.{length}
use Rattle.pool_script.proofs.RunLemmas.{IsLeft}
use Rattle.pool_script.proofs.cuts.run_of_lines.Given as goal

abbrev pub invariant-loop-len : goal.invariant-loop-len
invariant-loop-len l = IsLeft l.bytes l.left

abbrev pub decreases-loop-len : goal.decreases-loop-len
decreases-loop-len l = length l.left
