use Rattle.std.proofs.Common.{◌≡◌, ◌++◌, ◌+◌, drop}
use Rattle.pool_replies.specs.Cycles.{spins_text}
use Rattle.pool_replies.proofs.cycle.append_spins.Given as goal

abbrev pub invariant-loop-i : goal.invariant-loop-i
invariant-loop-i l = l.out ++ spins_text (l.i + 1) (drop l.i l.spins) ≡ l.initial.out ++ spins_text 1 l.spins
