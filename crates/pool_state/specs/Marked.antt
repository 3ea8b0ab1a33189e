-- Marks beside a list of places.
use Rattle.std.specs.Prelude.{◌≡◌, ℕ, Bool, false, slice_index_or, List}
use Rattle.claim_table.specs.Jobs.{lists}

-- the places that are marked are those of the list
abbrev pub AreMarked : List ℕ → List Bool → Type 0
AreMarked places marks = (place : ℕ) → lists places place ≡ slice_index_or marks place false
