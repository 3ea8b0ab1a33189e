use Rattle.std.proofs.Common.{◌≡◌, sum_by, take}
use Rattle.pool_replies.specs.Cycles.{offers_of_spin}
use Rattle.pool_replies.proofs.cycle.offers_of_spins.Given as goal

abbrev pub invariant-loop-spin : goal.invariant-loop-spin
invariant-loop-spin l = l.count ≡ sum_by offers_of_spin (take l.spin-index l.spins)
