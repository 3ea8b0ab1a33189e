use Rattle.std.proofs.Common.{◌≡◌, take}
use Rattle.negotiator.proofs.search.copy_of.Given as goal

abbrev pub invariant-loop-slot : goal.invariant-loop-slot
invariant-loop-slot l = l.list ≡ take l.slot-index l.slots
