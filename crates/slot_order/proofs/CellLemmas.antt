-- Cells, and the slots that are listed in them.
use Rattle.std.proofs.Common.{◌≡◌, ℕ, zero, suc, ◌≤◌, Bool, true, false, ◌||◌, cond, eqb, List, [], ◌∷◌, ◌++◌, length, filter, take, slice_get, slice_set}
use Rattle.std.proofs.Common.{Option, None, Some, is_some, refl, sym, ◌∙◌, ap, arith}
use Rattle.std.specs.List.{list_any}
use Rattle.std.proofs.lemmas.Bool.Decides.{nat_tests}
use Rattle.std.proofs.lemmas.Option.{none-some, same_Some}
use Rattle.slot_order.specs.Cells.{listed}
use Rattle.slot_order.specs.Slots.{without}

-- a cell
abbrev pub Cell : Type 0
Cell = Option ℕ

pub no_gap : (slot : ℕ) → Some None ≡ Some (Some slot) → ⊥
no_gap slot is = cc

pub same_number : (k : ℕ) → eqb k k ≡ true
same_number k = grind (arith, nat_tests)

pub number_of : (a b : ℕ) → eqb a b ≡ true → a ≡ b
number_of a b is = grind (arith, nat_tests)

pub either : (a b : Bool) → b ≡ true → (a || b) ≡ true
either true b is = refl
either false b is = is

-- ---- a slot and its cell

pub any-cell : (cells : List Cell) (slot : ℕ) → list_any (λ s. eqb s slot) (listed cells) ≡ true → (cell : ℕ) × (slice_get cells cell ≡ Some (Some slot))
any-cell [] slot any = absurd (cc)
any-cell (None ∷ cells) slot any = let rest = any-cell cells slot any in (suc rest.0, rest.1)
any-cell (Some s ∷ cells) slot any = by (eqb s slot) refl any (λ later. any-cell cells slot later)
  where
    by : (b : Bool) → eqb s slot ≡ b → (b || list_any (λ t. eqb t slot) (listed cells)) ≡ true
        → (list_any (λ t. eqb t slot) (listed cells) ≡ true → (cell : ℕ) × (slice_get cells cell ≡ Some (Some slot)))
        → (cell : ℕ) × (slice_get (Some s ∷ cells) cell ≡ Some (Some slot))
    by true is some later = (0, ap (λ t. Some (Some t)) (number_of s slot is))
    by false is some later = let rest = later some in (suc rest.0, rest.1)

pub cell-any : (cells : List Cell) (cell slot : ℕ) → slice_get cells cell ≡ Some (Some slot) → list_any (λ s. eqb s slot) (listed cells) ≡ true
cell-any [] cell slot at = absurd (none-some (Some slot) at)
cell-any (None ∷ cells) zero slot at = absurd (no_gap slot at)
cell-any (None ∷ cells) (suc cell) slot at = cell-any cells cell slot at
cell-any (Some s ∷ cells) zero slot at =
    let here : s ≡ slot = same_Some s slot (same_Some (Some s) (Some slot) at) in
    ap (λ b. b || list_any (λ t. eqb t slot) (listed cells)) (ap (λ t. eqb t slot) here ∙ same_number slot)
cell-any (Some s ∷ cells) (suc cell) slot at = either (eqb s slot) _ (cell-any cells cell slot at)

-- ---- the slots when cells change

pub listed-push : (cells : List Cell) (slot : ℕ) → listed (cells ++ Some slot ∷ []) ≡ listed cells ++ slot ∷ []
listed-push [] slot = refl
listed-push (None ∷ cells) slot = listed-push cells slot
listed-push (Some s ∷ cells) slot = ap (λ l. s ∷ l) (listed-push cells slot)

pub listed-filter : (cells : List Cell) → listed (filter is_some cells) ≡ listed cells
listed-filter [] = refl
listed-filter (None ∷ cells) = listed-filter cells
listed-filter (Some s ∷ cells) = ap (λ l. s ∷ l) (listed-filter cells)

pub without-absent : (slot : ℕ) (slots : List ℕ) → list_any (λ s. eqb s slot) slots ≡ false → without slot slots ≡ slots
without-absent slot [] absent = refl
without-absent slot (s ∷ slots) absent = by (eqb s slot) absent (λ rest. without-absent slot slots rest)
  where
    by : (b : Bool) → (b || list_any (λ t. eqb t slot) slots) ≡ false → (list_any (λ t. eqb t slot) slots ≡ false → without slot slots ≡ slots)
        → cond b slots (s ∷ without slot slots) ≡ s ∷ slots
    by true none later = absurd (cc)
    by false none later = ap (λ l. s ∷ l) (later none)

-- ---- how many slots there are

pub listed-short : (cells : List Cell) → length (listed cells) ≤ length cells
listed-short [] = omega arith
listed-short (None ∷ cells) = omega (arith, listed-short cells)
listed-short (Some s ∷ cells) = omega (arith, listed-short cells)

pub length-gone : (cells : List Cell) (cell slot : ℕ) → slice_get cells cell ≡ Some (Some slot)
    → suc (length (listed (slice_set cells cell None))) ≡ length (listed cells)
length-gone [] cell slot at = absurd (none-some (Some slot) at)
length-gone (None ∷ cells) zero slot at = absurd (no_gap slot at)
length-gone (None ∷ cells) (suc cell) slot at = length-gone cells cell slot at
length-gone (Some s ∷ cells) zero slot at = refl
length-gone (Some s ∷ cells) (suc cell) slot at = ap suc (length-gone cells cell slot at)

-- ---- places

-- the slots before a cell are as many as its slot's place
pub place-cell : (cells : List Cell) (cell slot : ℕ) → slice_get cells cell ≡ Some (Some slot)
    → slice_get (listed cells) (length (listed (take cell cells))) ≡ Some slot
place-cell [] cell slot at = absurd (none-some (Some slot) at)
place-cell (None ∷ cells) zero slot at = absurd (no_gap slot at)
place-cell (None ∷ cells) (suc cell) slot at = place-cell cells cell slot at
place-cell (Some s ∷ cells) zero slot at = same_Some (Some s) (Some slot) at
place-cell (Some s ∷ cells) (suc cell) slot at = place-cell cells cell slot at

-- where no cell is empty, places are cells
pub full-at : (cells : List Cell) (i : ℕ) (cell : Cell) → length (listed cells) ≡ length cells → slice_get cells i ≡ Some cell
    → cell ≡ slice_get (listed cells) i
full-at [] i cell full at = absurd (none-some cell at)
full-at (None ∷ cells) i cell full at = absurd (omega (arith, full, listed-short cells))
full-at (Some s ∷ cells) zero cell full at = sym (same_Some (Some s) cell at)
full-at (Some s ∷ cells) (suc i) cell full at = full-at cells i cell (omega (arith, full)) at
