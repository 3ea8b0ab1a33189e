use Rattle.std.proofs.Common.{◌≡◌, take}
use Rattle.claim_table.specs.Claims.{freed_all}
use Rattle.claim_table.specs.Table.{jobs_of}
use Rattle.claim_table.proofs.table.ClaimTable.tell_all.Given as goal

abbrev pub invariant-loop-i : goal.invariant-loop-i
invariant-loop-i l = l.freed ≡ freed_all (jobs_of l.self) (take l.i-index l.numbers)
