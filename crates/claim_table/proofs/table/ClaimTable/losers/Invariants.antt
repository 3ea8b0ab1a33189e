use Rattle.std.proofs.Common.{◌≡◌, take}
use Rattle.claim_table.specs.Claims as claims
use Rattle.claim_table.specs.Table.{jobs_of}
use Rattle.claim_table.proofs.table.ClaimTable.losers.Given as goal

abbrev pub invariant-loop-slot : goal.invariant-loop-slot
invariant-loop-slot l = l.numbers ≡ claims.losers (jobs_of l.self) (take l.slot-index l.slots)
