-- What is always true of the cells, when slots come and leave.
use Rattle.std.proofs.Common.{◌≡◌, ◌≢◌, ℕ, zero, suc, ◌+◌, ◌<◌, ◌⊎◌, inl, inr, Bool, true}
use Rattle.std.proofs.Common.{false, not, ◌&&◌, ◌||◌, cond, eqb, List, [], ◌∷◌, ◌++◌, ◌-◌, length}
use Rattle.std.proofs.Common.{length-append, filter, slice_get, slice_set, Option, None, Some, is_some, IfNone, IfSome, refl, sym, ◌∙◌, ap, subst, arith}
use Rattle.std.specs.List.{list_any}
use Rattle.std.proofs.lemmas.Option.{none-some, same_Some, slice_get_within}
use Rattle.slot_order.specs.Cells.{AreFound, AreLone, AreNoted, IsKept, listed}
use Rattle.slot_order.specs.Slots.{are_apart, without}
use Rattle.slot_order.proofs.CellLemmas.{Cell, any-cell, cell-any, length-gone, listed-filter, listed-push, no_gap, number_of, same_number}

-- a slot that isn't where it is noted isn't there
pub noted-none : (cells : List Cell) (places : List ℕ) (slot : ℕ) → AreNoted cells places
    → ((cell : ℕ) → slice_get places slot ≡ Some cell → slice_get cells cell ≢ Some (Some slot)) → list_any (λ s. eqb s slot) (listed cells) ≡ false
noted-none cells places slot noted none = by (list_any (λ s. eqb s slot) (listed cells)) refl
  where
    by : (b : Bool) → list_any (λ s. eqb s slot) (listed cells) ≡ b → b ≡ false
    by false is = refl
    by true is = let there = any-cell cells slot is in absurd (none there.0 (noted there.0 slot there.1) there.1)

-- ---- no two slots are one

pub noted-lone : (cells : List Cell) (places : List ℕ) → AreNoted cells places → AreLone cells
noted-lone cells places noted = λ i j slot at_i at_j. same_Some i j (sym (noted i slot at_i) ∙ noted j slot at_j)

lone-rest : (cell : Cell) (cells : List Cell) → AreLone (cell ∷ cells) → AreLone cells
lone-rest cell cells lone = λ i j slot at_i at_j. omega (arith, lone (suc i) (suc j) slot at_i at_j)

pub lone-apart : (cells : List Cell) → AreLone cells → are_apart (listed cells) ≡ true
lone-apart [] lone = refl
lone-apart (None ∷ cells) lone = lone-apart cells (lone-rest None cells lone)
lone-apart (Some s ∷ cells) lone = by (list_any (λ t. eqb t s) (listed cells)) refl (lone-apart cells (lone-rest (Some s) cells lone))
  where
    by : (b : Bool) → list_any (λ t. eqb t s) (listed cells) ≡ b → are_apart (listed cells) ≡ true → (not b && are_apart (listed cells)) ≡ true
    by false is rest = rest
    by true is rest = let there = any-cell cells s is in absurd (omega (arith, lone 0 (suc there.0) s refl there.1))

both : (a b : Bool) → (not a && b) ≡ true → (a ≡ false) × (b ≡ true)
both false b is = (refl, is)
both true b is = absurd (cc)

-- a slot that isn't listed behind has no cell there
other : (s slot : ℕ) (cells : List Cell) (j : ℕ) → (not (list_any (λ t. eqb t s) (listed cells)) && are_apart (listed cells)) ≡ true
    → Some (Some s) ≡ Some (Some slot) → slice_get cells j ≡ Some (Some slot) → ⊥
other s slot cells j apart here there =
    let same : s ≡ slot = same_Some s slot (same_Some (Some s) (Some slot) here) in
    let any : list_any (λ t. eqb t s) (listed cells) ≡ true = ap (λ k. list_any (λ t. eqb t k) (listed cells)) same ∙ cell-any cells j slot there in
    let none = (both (list_any (λ t. eqb t s) (listed cells)) (are_apart (listed cells)) apart).0 in
    cc

pub apart-lone : (cells : List Cell) → are_apart (listed cells) ≡ true → AreLone cells
apart-lone [] apart i j slot at_i at_j = absurd (none-some (Some slot) at_i)
apart-lone (None ∷ cells) apart zero j slot at_i at_j = absurd (no_gap slot at_i)
apart-lone (None ∷ cells) apart (suc i) zero slot at_i at_j = absurd (no_gap slot at_j)
apart-lone (None ∷ cells) apart (suc i) (suc j) slot at_i at_j = ap suc (apart-lone cells apart i j slot at_i at_j)
apart-lone (Some s ∷ cells) apart zero zero slot at_i at_j = refl
apart-lone (Some s ∷ cells) apart zero (suc j) slot at_i at_j = absurd (other s slot cells j apart at_i at_j)
apart-lone (Some s ∷ cells) apart (suc i) zero slot at_i at_j = absurd (other s slot cells i apart at_j at_i)
apart-lone (Some s ∷ cells) apart (suc i) (suc j) slot at_i at_j = ap suc (apart-lone cells (both _ _ apart).1 i j slot at_i at_j)

-- ---- gaps that are closed

pub closed-lone : (cells : List Cell) → AreLone cells → AreLone (filter is_some cells)
closed-lone cells lone = apart-lone (filter is_some cells) (ap are_apart (listed-filter cells) ∙ lone-apart cells lone)

pub closed-found : (cells : List Cell) (places : List ℕ) → AreNoted cells places → AreFound (filter is_some cells) (length places)
closed-found cells places noted = λ cell slot at.
    let there = any-cell cells slot (ap (list_any (λ s. eqb s slot)) (sym (listed-filter cells)) ∙ cell-any (filter is_some cells) cell slot at) in
    slice_get_within places slot there.0 (noted there.0 slot there.1)

-- ---- a slot that leaves

get-gone : (cells : List Cell) (cell i slot : ℕ) → slice_get (slice_set cells cell None) i ≡ Some (Some slot) → slice_get cells i ≡ Some (Some slot)
get-gone [] cell i slot at = at
get-gone (c ∷ cells) zero zero slot at = absurd (no_gap slot at)
get-gone (c ∷ cells) zero (suc i) slot at = at
get-gone (c ∷ cells) (suc cell) zero slot at = at
get-gone (c ∷ cells) (suc cell) (suc i) slot at = get-gone cells cell i slot at

pub gone-noted : (cells : List Cell) (places : List ℕ) (cell : ℕ) → AreNoted cells places → AreNoted (slice_set cells cell None) places
gone-noted cells places cell noted = λ i slot at. noted i slot (get-gone cells cell i slot at)

pub gone-listed : (cells : List Cell) (cell slot : ℕ) → are_apart (listed cells) ≡ true → slice_get cells cell ≡ Some (Some slot)
    → listed (slice_set cells cell None) ≡ without slot (listed cells)
gone-listed [] cell slot apart at = absurd (none-some (Some slot) at)
gone-listed (None ∷ cells) zero slot apart at = absurd (no_gap slot at)
gone-listed (None ∷ cells) (suc cell) slot apart at = gone-listed cells cell slot apart at
gone-listed (Some s ∷ cells) zero slot apart at =
    let here : s ≡ slot = same_Some s slot (same_Some (Some s) (Some slot) at) in
    let test : eqb s slot ≡ true = ap (λ t. eqb t slot) here ∙ same_number slot in
    sym (ap (λ b. cond b (listed cells) (s ∷ without slot (listed cells))) test)
gone-listed (Some s ∷ cells) (suc cell) slot apart at = by (eqb s slot) refl (gone-listed cells cell slot (both _ _ apart).1 at)
  where
    by : (b : Bool) → eqb s slot ≡ b → listed (slice_set cells cell None) ≡ without slot (listed cells)
        → s ∷ listed (slice_set cells cell None) ≡ cond b (listed cells) (s ∷ without slot (listed cells))
    by true is rest =
        let any : list_any (λ t. eqb t s) (listed cells) ≡ true =
        ap (λ k. list_any (λ t. eqb t k) (listed cells)) (number_of s slot is) ∙ cell-any cells cell slot at in
        let none = (both (list_any (λ t. eqb t s) (listed cells)) (are_apart (listed cells)) apart).0 in
        absurd (cc)
    by false is rest = ap (λ l. s ∷ l) rest

-- ---- a slot that comes

module _ (slot : ℕ) where
  get-last : (cells : List Cell) (cell s : ℕ) → slice_get (cells ++ Some slot ∷ []) cell ≡ Some (Some s) → list_any (λ t. eqb t slot) (listed cells) ≡ false
      → ((s ≢ slot) × (slice_get cells cell ≡ Some (Some s))) ⊎ ((s ≡ slot) × (cell ≡ length cells))
  get-last [] zero s at absent = inr (sym (same_Some slot s (same_Some (Some slot) (Some s) at)), refl)
  get-last [] (suc cell) s at absent = absurd (none-some (Some s) at)
  get-last (c ∷ cells) zero s at absent = inl ((λ same. other same), at)
    where
      other : s ≡ slot → ⊥
      other same =
          let any = cell-any (c ∷ cells) zero s at in
          let any_slot : list_any (λ t. eqb t slot) (listed (c ∷ cells)) ≡ true = subst (λ k. list_any (λ t. eqb t k) (listed (c ∷ cells)) ≡ true) same any in
          cc
  get-last (c ∷ cells) (suc cell) s at absent = by (get-last cells cell s at (rest_absent c absent))
    where
      rest_absent : (c : Cell) → list_any (λ t. eqb t slot) (listed (c ∷ cells)) ≡ false → list_any (λ t. eqb t slot) (listed cells) ≡ false
      rest_absent None none = none
      rest_absent (Some t) none = later (eqb t slot) none
        where
          later : (b : Bool) → (b || list_any (λ t. eqb t slot) (listed cells)) ≡ false → list_any (λ t. eqb t slot) (listed cells) ≡ false
          later true none = absurd (cc)
          later false none = none

      by : ((s ≢ slot) × (slice_get cells cell ≡ Some (Some s))) ⊎ ((s ≡ slot) × (cell ≡ length cells))
          → ((s ≢ slot) × (slice_get cells cell ≡ Some (Some s))) ⊎ ((s ≡ slot) × (suc cell ≡ suc (length cells)))
      by (inl before) = inl before
      by (inr last) = inr (last.0, ap suc last.1)

pub get-same : (xs : List ℕ) (i x : ℕ) → i < length xs → slice_get (slice_set xs i x) i ≡ Some x
get-same [] i x within = absurd (omega (arith, within))
get-same (y ∷ xs) zero x within = refl
get-same (y ∷ xs) (suc i) x within = get-same xs i x (omega (arith, within))

pub get-other : (xs : List ℕ) (i j x : ℕ) → j ≢ i → slice_get (slice_set xs i x) j ≡ slice_get xs j
get-other [] i j x other = refl
get-other (y ∷ xs) zero zero x other = absurd (other refl)
get-other (y ∷ xs) zero (suc j) x other = refl
get-other (y ∷ xs) (suc i) zero x other = refl
get-other (y ∷ xs) (suc i) (suc j) x other = get-other xs i j x (λ same. other (ap suc same))

pub last-noted : (cells : List Cell) (places : List ℕ) (slot : ℕ) → list_any (λ t. eqb t slot) (listed cells) ≡ false → AreNoted cells places
    → slot < length places → AreNoted (cells ++ Some slot ∷ []) (slice_set places slot (length cells))
last-noted cells places slot absent noted within = λ cell s at. by cell s (get-last slot cells cell s at absent)
  where
    by : (cell s : ℕ) → ((s ≢ slot) × (slice_get cells cell ≡ Some (Some s))) ⊎ ((s ≡ slot) × (cell ≡ length cells))
        → slice_get (slice_set places slot (length cells)) s ≡ Some cell
    by cell s (inl before) = get-other places slot s (length cells) before.0 ∙ noted cell s before.1
    by cell s (inr last) = ap (slice_get (slice_set places slot (length cells))) last.0 ∙ get-same places slot (length cells) within ∙ ap Some (sym last.1)

-- ---- what a look for a slot tells

module _ (cells shown : List Cell) (places notes : List ℕ) (len : ℕ) (slots : List ℕ) (slot : ℕ) (kept : IsKept cells places len) (view : listed cells ≡ slots)
    (same : shown ≡ cells) (same_notes : notes ≡ places) where
  pub tells-none : ((cell : ℕ) → slice_get notes slot ≡ Some cell → slice_get shown cell ≢ Some (Some slot)) → list_any (λ s. eqb s slot) slots ≡ false
  tells-none none =
      ap (list_any (λ s. eqb s slot)) (sym view)
      ∙ noted-none cells places slot kept.noted (λ cell at there. none cell (ap (λ n. slice_get n slot) same_notes ∙ at)
      (ap (λ l. slice_get l cell) same ∙ there))

  pub tells-some : (cell : ℕ) → slice_get shown cell ≡ Some (Some slot) → list_any (λ s. eqb s slot) slots ≡ true
  tells-some cell at = ap (list_any (λ s. eqb s slot)) (sym view) ∙ cell-any cells cell slot (ap (λ l. slice_get l cell) (sym same) ∙ at)

  pub tells : (found : Option ℕ) → IfSome found (λ cell. slice_get shown cell ≡ Some (Some slot))
      → IfNone found ((cell : ℕ) → slice_get notes slot ≡ Some cell → slice_get shown cell ≢ Some (Some slot))
      → is_some found ≡ list_any (λ s. eqb s slot) slots
  tells None at none = sym (tells-none none)
  tells (Some cell) at none = sym (tells-some cell at)

-- ---- an order when a slot comes or leaves

pub last-kept : (cells : List Cell) (places later : List ℕ) (len slot last : ℕ) → list_any (λ t. eqb t slot) (listed cells) ≡ false → IsKept cells places len
    → ((k cell : ℕ) → slice_get places k ≡ Some cell → slice_get later k ≡ Some cell) → slot < length later → last ≡ length cells
    → IsKept (cells ++ Some slot ∷ []) (slice_set later slot last) (len + 1)
last-kept cells places later len slot last absent kept more within is =
    record {
      noted =
          subst (λ k. AreNoted (cells ++ Some slot ∷ []) (slice_set later slot k)) (sym is)
          (last-noted cells later slot absent (λ cell s at. more s cell (kept.noted cell s at)) within);
      counted = omega (arith, kept.counted, ap length (listed-push cells slot), length-append (listed cells) (slot ∷ []));
    }

module _ (cells : List Cell) (places : List ℕ) (len cell slot : ℕ) (kept : IsKept cells places len) (at : slice_get cells cell ≡ Some (Some slot)) where
  pub gone-kept : IsKept (slice_set cells cell None) places (len - 1)
  gone-kept = record { noted = gone-noted cells places cell kept.noted; counted = omega (arith, kept.counted, length-gone cells cell slot at) }

  pub gone-left : listed (slice_set cells cell None) ≡ without slot (listed cells)
  gone-left = gone-listed cells cell slot (lone-apart cells (noted-lone cells places kept.noted)) at
