use Rattle.std.proofs.Common.{◌≡◌, take}
use Rattle.pool_state.specs.Notices.{matches}
use Rattle.pool_state.proofs.notices.matches.Given as goal

abbrev pub invariant-loop-spin : goal.invariant-loop-spin
invariant-loop-spin l = l.list ≡ matches (take l.spin-index l.spins)
