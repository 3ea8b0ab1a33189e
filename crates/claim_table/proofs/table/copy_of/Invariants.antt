use Rattle.std.proofs.Common.{◌≡◌, take}
use Rattle.claim_table.proofs.table.copy_of.Given as goal

abbrev pub invariant-loop-slot : goal.invariant-loop-slot
invariant-loop-slot l = l.list ≡ take l.slot-index l.slots
