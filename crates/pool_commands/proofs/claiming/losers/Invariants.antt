use Rattle.std.proofs.Common.{◌≡◌, map, take}
use Rattle.pool_commands.proofs.claiming.losers.Given as goal

abbrev pub invariant-loop-one : goal.invariant-loop-one
invariant-loop-one l = l.names ≡ map (λ one. one.job) (take l.one-index l.freed)
