use Rattle.std.proofs.Common.{◌≡◌, ◌++◌, drop}
use Rattle.pool_replies.specs.Reasons.{verdict_lines}
use Rattle.pool_replies.proofs.why.append_verdicts.Given as goal

abbrev pub invariant-loop-i : goal.invariant-loop-i
invariant-loop-i l = l.out ++ verdict_lines (drop l.i l.names) (drop l.i l.verdicts) ≡ l.initial.out ++ verdict_lines l.names l.verdicts
