use Rattle.std.proofs.Common.{◌≡◌, ◌≤◌, ◌<◌, ℕ, Some, slice_get}
use Rattle.slab.specs.Slab.{get}
use Rattle.ad_store.specs.Held.{end_of}
use Rattle.ad_store.proofs.store.soonest_end.Given as goal

abbrev pub invariant-loop-k : goal.invariant-loop-k
invariant-loop-k l = (cell slot : ℕ) → cell < l.k → slice_get l.cells cell ≡ Some (Some slot) → l.soonest ≤ end_of (get l.table slot)
