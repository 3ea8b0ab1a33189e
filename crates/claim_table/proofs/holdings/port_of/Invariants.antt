use Rattle.std.proofs.Common.{◌≡◌, ◌<◌, ℕ, eqb, false, get_or}
use Rattle.claim_table.proofs.holdings.port_of.Given as goal

abbrev pub invariant-loop-other : goal.invariant-loop-other
invariant-loop-other l = (l.port ≡ l.other-index) × ((k : ℕ) → k < l.other-index → eqb (get_or l.slots k 0) l.slot ≡ false)
