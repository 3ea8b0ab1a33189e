-- How slots in order lie in memory: cells, each with a slot or empty, and the cell of each slot.
use Rattle.std.specs.Prelude.{◌≡◌, ◌<◌, ◌≤◌, ◌+◌, ◌*◌, ℕ, List, [], ◌∷◌, Option, None, Some, length, slice_get, take}

-- the slots in the cells, in order
abbrev pub listed : List (Option ℕ) → List ℕ
listed [] = []
listed (None ∷ cells) = listed cells
listed (Some slot ∷ cells) = slot ∷ listed cells

-- the cell of each slot is noted at the slot
abbrev pub AreNoted : List (Option ℕ) → List ℕ → Type 0
AreNoted cells places = (cell slot : ℕ) → slice_get cells cell ≡ Some (Some slot) → slice_get places slot ≡ Some cell

-- no two cells have one slot
abbrev pub AreLone : List (Option ℕ) → Type 0
AreLone cells = (i j slot : ℕ) → slice_get cells i ≡ Some (Some slot) → slice_get cells j ≡ Some (Some slot) → i ≡ j

-- each slot in a cell is below a bound
abbrev pub AreFound : List (Option ℕ) → ℕ → Type 0
AreFound cells bound = (cell slot : ℕ) → slice_get cells cell ≡ Some (Some slot) → slot < bound

-- what is always true of the cells, the places and the number of slots
pub record IsKept (cells : List (Option ℕ)) (places : List ℕ) (len : ℕ) : Type 0 where
  pub noted : AreNoted cells places
  pub counted : len ≡ length (listed cells)

-- how many slots stand before a cell
abbrev pub before : List (Option ℕ) → ℕ → ℕ
before cells cell = length (listed (take cell cells))

-- what is always true of the cells and the numbers of slots in each block of 64 of them
pub record AreCounted (cells : List (Option ℕ)) (counts : List ℕ) : Type 0 where
  pub counted : (block count : ℕ) → slice_get counts block ≡ Some count
      → before cells (64 * block) + count ≡ before cells (64 * block + 64)
  pub reached : length cells ≤ 64 * length counts
