use Rattle.std.proofs.Common.{◌≡◌, ◌<◌, ℕ, Some, slice_get, vec_len}
use Rattle.slot_order.proofs.cells.note_places.Given as goal

abbrev pub invariant-loop-k : goal.invariant-loop-k
invariant-loop-k l =
    (vec_len l.places ≡ vec_len l.initial.places)
    × ((cell slot : ℕ) → cell < l.k → slice_get l.cells cell ≡ Some (Some slot) → slice_get l.places.items slot ≡ Some cell)
