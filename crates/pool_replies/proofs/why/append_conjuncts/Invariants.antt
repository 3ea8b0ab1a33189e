use Rattle.std.proofs.Common.{◌≡◌, ◌++◌, ◌+◌, drop}
use Rattle.pool_replies.specs.Reasons.{conjunct_lines}
use Rattle.pool_replies.proofs.why.append_conjuncts.Given as goal

abbrev pub invariant-loop-i : goal.invariant-loop-i
invariant-loop-i l = l.out ++ conjunct_lines (l.i + 1) (drop l.i l.rows) ≡ l.initial.out ++ conjunct_lines 1 l.rows
