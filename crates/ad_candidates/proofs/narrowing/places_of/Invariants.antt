use Rattle.std.proofs.Common.{◌≡◌, map, slice_get, take, Some}
use Rattle.ad_store.specs.Store.{stock_of}
use Rattle.ad_candidates.proofs.narrowing.places_of.Given as goal

abbrev pub invariant-loop-slot : goal.invariant-loop-slot
invariant-loop-slot l = map (slice_get (stock_of l.store).slots) l.places ≡ map Some (take l.slot-index l.slot-items)
