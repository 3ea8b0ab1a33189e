-- Notes of jobs' slots, and the numbers that they stand for.
use Rattle.std.proofs.Common.{◌≡◌, ◌≢◌, ℕ, zero, suc, ◌-◌, ◌<◌, Bool, true, false, cond, eqb, ltb, List, [], ◌∷◌, ◌++◌, is_some}
use Rattle.std.proofs.Common.{length, position, Option, None, Some, refl, sym, ◌∙◌, ap, arith}
use Rattle.std.specs.Prelude.{option_map}
use Rattle.std.specs.List.{remove}
use Rattle.std.specs.Option.{option_and_then}
use Rattle.std.proofs.lemmas.Bool.Decides.{nat_tests}
use Rattle.std.proofs.lemmas.List.{length-map}
use Rattle.claim_table.specs.Kept.{names, note_at, numbers}
use Rattle.claim_table.proofs.NoteLemmas.{first_at, position-first}

-- the number that a note stands for
abbrev pub number_of_note : List ℕ → Option ℕ → Option ℕ
number_of_note slots note = option_and_then (λ key. position (λ s. eqb s key) slots) note

pub note-numbers : (slots : List ℕ) (notes : List (Option ℕ)) (slot : ℕ)
    → note_at (numbers slots notes) slot ≡ number_of_note slots (note_at notes slot)
note-numbers slots [] slot = refl
note-numbers slots (n ∷ notes) zero = refl
note-numbers slots (n ∷ notes) (suc slot) = note-numbers slots notes slot

pub length-numbers : (slots : List ℕ) (notes : List (Option ℕ)) → length (numbers slots notes) ≡ length notes
length-numbers slots notes = length-map notes (option_and_then (λ key. position (λ s. eqb s key) slots))

module _ (slots : List ℕ) (notes later : List (Option ℕ)) (slot : ℕ) where
  pub numbers-put : (b : Bool) (value : Option ℕ) → note_at later slot ≡ cond b value (note_at notes slot)
      → note_at (numbers slots later) slot ≡ cond b (number_of_note slots value) (note_at (numbers slots notes) slot)
  numbers-put b value is = note-numbers slots later slot ∙ ap (number_of_note slots) is ∙ by b
    where
      by : (b : Bool) → number_of_note slots (cond b value (note_at notes slot)) ≡ cond b (number_of_note slots value) (note_at (numbers slots notes) slot)
      by true = refl
      by false = sym (note-numbers slots notes slot)

  pub numbers-same : note_at later slot ≡ note_at notes slot → note_at (numbers slots later) slot ≡ note_at (numbers slots notes) slot
  numbers-same is = note-numbers slots later slot ∙ ap (number_of_note slots) is ∙ sym (note-numbers slots notes slot)

-- ---- a job that leaves

-- a number once one is gone
abbrev pub behind : ℕ → ℕ → ℕ
behind i k = cond (ltb i k) (k - 1) k

behind_suc : (i : ℕ) (o : Option ℕ) → option_map suc (option_map (behind i) o) ≡ option_map (behind (suc i)) (option_map suc o)
behind_suc i None = refl
behind_suc i (Some k) = ap (λ n. Some n) (by (ltb i k) refl)
  where
    by : (b : Bool) → ltb i k ≡ b → suc (cond (ltb i k) (k - 1) k) ≡ cond (ltb (suc i) (suc k)) (suc k - 1) (suc k)
    by true is =
        let next : ltb (suc i) (suc k) ≡ true = grind (arith, nat_tests) in
        let more : suc (k - 1) ≡ suc k - 1 = grind (arith, nat_tests) in
        ap (λ b. suc (cond b (k - 1) k)) is ∙ more ∙ sym (ap (λ b. cond b (suc k - 1) (suc k)) next)
    by false is =
        let next : ltb (suc i) (suc k) ≡ false = grind (arith, nat_tests) in
        ap (λ b. suc (cond b (k - 1) k)) is ∙ sym (ap (λ b. cond b (suc k - 1) (suc k)) next)

first-gone : (slots : List ℕ) (i key : ℕ) → i < length slots → first_at (λ s. eqb s key) slots ≢ Some i
    → first_at (λ s. eqb s key) (remove slots i) ≡ option_map (behind i) (first_at (λ s. eqb s key) slots)
unfolding first_at
first-gone [] i key within other = absurd (omega (arith, within))
first-gone (s ∷ slots) zero key within other = by (eqb s key) other
  where
    later : (o : Option ℕ) → o ≡ option_map (behind 0) (option_map suc o)
    later None = refl
    later (Some k) =
        let next : ltb 0 (suc k) ≡ true = grind (arith, nat_tests) in
        let same : k ≡ suc k - 1 = omega arith in
        ap (λ n. Some n) (same ∙ sym (ap (λ b. cond b (suc k - 1) (suc k)) next))

    by : (b : Bool) → cond b (Some 0) (option_map suc (first_at (λ t. eqb t key) slots)) ≢ Some 0
        → first_at (λ t. eqb t key) slots ≡ option_map (behind 0) (cond b (Some 0) (option_map suc (first_at (λ t. eqb t key) slots)))
    by true other = absurd (other refl)
    by false other = later (first_at (λ t. eqb t key) slots)
first-gone (s ∷ slots) (suc i) key within other = by (eqb s key) other (λ rest. first-gone slots i key (omega (arith, within)) rest)
  where
    zeroth : behind (suc i) 0 ≡ 0
    zeroth = let tested : ltb (suc i) 0 ≡ false = grind (arith, nat_tests) in ap (λ b. cond b (0 - 1) 0) tested

    by : (b : Bool) → cond b (Some 0) (option_map suc (first_at (λ t. eqb t key) slots)) ≢ Some (suc i)
        → (first_at (λ t. eqb t key) slots ≢ Some i
        → first_at (λ t. eqb t key) (remove slots i) ≡ option_map (behind i) (first_at (λ t. eqb t key) slots))
        → cond b (Some 0) (option_map suc (first_at (λ t. eqb t key) (remove slots i)))
        ≡ option_map (behind (suc i)) (cond b (Some 0) (option_map suc (first_at (λ t. eqb t key) slots)))
    by true other later = ap (λ n. Some n) (sym zeroth)
    by false other later = ap (option_map suc) (later (λ same. other (ap (option_map suc) same))) ∙ behind_suc i (first_at (λ t. eqb t key) slots)

-- where no note stands for the number that is gone, those above it are smaller by one
pub numbers-gone : (slots : List ℕ) (i : ℕ) (notes : List (Option ℕ)) (slot : ℕ) → i < length slots
    → names (note_at (numbers slots notes) slot) i ≡ false
    → note_at (numbers (remove slots i) notes) slot ≡ option_map (behind i) (note_at (numbers slots notes) slot)
numbers-gone slots i notes slot within none =
    note-numbers (remove slots i) notes slot ∙ by (note_at notes slot) refl ∙ ap (option_map (behind i)) (sym (note-numbers slots notes slot))
  where
    by : (o : Option ℕ) → note_at notes slot ≡ o → number_of_note (remove slots i) o ≡ option_map (behind i) (number_of_note slots o)
    by None is = refl
    by (Some key) is =
        position-first (λ s. eqb s key) (remove slots i) ∙ first-gone slots i key within other
        ∙ ap (option_map (behind i)) (sym (position-first (λ s. eqb s key) slots))
      where
        same_number : eqb i i ≡ true
        same_number = grind (arith, nat_tests)

        other : first_at (λ s. eqb s key) slots ≢ Some i
        other = λ at.
            let stands : note_at (numbers slots notes) slot ≡ Some i =
            note-numbers slots notes slot ∙ ap (number_of_note slots) is ∙ position-first (λ s. eqb s key) slots ∙ at in
            let named : names (note_at (numbers slots notes) slot) i ≡ true = ap (λ n. names n i) stands ∙ same_number in
            cc

-- ---- notes that stand for jobs

-- the note at a slot stands for a job that is there
abbrev pub Stands : List ℕ → List (Option ℕ) → ℕ → Type 0
Stands slots notes slot = is_some (note_at (numbers slots notes) slot) ≡ is_some (note_at notes slot)

pub stands-put : (slots : List ℕ) (notes later : List (Option ℕ)) (slot : ℕ) (b : Bool) (value : Option ℕ)
    → is_some (number_of_note slots value) ≡ is_some value
    → note_at later slot ≡ cond b value (note_at notes slot) → Stands slots notes slot → Stands slots later slot
stands-put slots notes later slot b value stands is before = ap is_some (numbers-put slots notes later slot b value is) ∙ by b ∙ sym (ap is_some is)
  where
    by : (b : Bool) → is_some (cond b (number_of_note slots value) (note_at (numbers slots notes) slot)) ≡ is_some (cond b value (note_at notes slot))
    by true = stands
    by false = before

pub stands-same : (slots : List ℕ) (notes later : List (Option ℕ)) (slot : ℕ) → note_at later slot ≡ note_at notes slot → Stands slots notes slot
    → Stands slots later slot
stands-same slots notes later slot is before = ap is_some (numbers-same slots notes later slot is) ∙ before ∙ sym (ap is_some is)

some_map : (f : ℕ → ℕ) (o : Option ℕ) → is_some (option_map f o) ≡ is_some o
some_map f None = refl
some_map f (Some k) = refl

pub stands-gone : (slots : List ℕ) (i : ℕ) (notes : List (Option ℕ)) (slot : ℕ) → i < length slots
    → names (note_at (numbers slots notes) slot) i ≡ false → Stands slots notes slot → Stands (remove slots i) notes slot
stands-gone slots i notes slot within none before =
    ap is_some (numbers-gone slots i notes slot within none) ∙ some_map (behind i) (note_at (numbers slots notes) slot) ∙ before

first-push : (slots : List ℕ) (last key : ℕ) → is_some (first_at (λ s. eqb s key) slots) ≡ true
    → first_at (λ s. eqb s key) (slots ++ last ∷ []) ≡ first_at (λ s. eqb s key) slots
unfolding first_at
first-push [] last key some = absurd (cc)
first-push (s ∷ slots) last key some = by (eqb s key) some (λ rest. first-push slots last key rest)
  where
    by : (b : Bool) → is_some (cond b (Some 0) (option_map suc (first_at (λ t. eqb t key) slots))) ≡ true
        → (is_some (first_at (λ t. eqb t key) slots) ≡ true → first_at (λ t. eqb t key) (slots ++ last ∷ []) ≡ first_at (λ t. eqb t key) slots)
        → cond b (Some 0) (option_map suc (first_at (λ t. eqb t key) (slots ++ last ∷ [])))
        ≡ cond b (Some 0) (option_map suc (first_at (λ t. eqb t key) slots))
    by true some later = refl
    by false some later = ap (option_map suc) (later (sym (some_map suc (first_at (λ t. eqb t key) slots)) ∙ some))

pub numbers-push : (slots : List ℕ) (last : ℕ) (notes : List (Option ℕ)) (slot : ℕ) → Stands slots notes slot
    → note_at (numbers (slots ++ last ∷ []) notes) slot ≡ note_at (numbers slots notes) slot
numbers-push slots last notes slot stands =
    note-numbers (slots ++ last ∷ []) notes slot ∙ by (note_at notes slot) refl ∙ sym (note-numbers slots notes slot)
  where
    by : (o : Option ℕ) → note_at notes slot ≡ o → number_of_note (slots ++ last ∷ []) o ≡ number_of_note slots o
    by None is = refl
    by (Some key) is =
        let some : is_some (first_at (λ s. eqb s key) slots) ≡ true =
        ap is_some (sym (position-first (λ s. eqb s key) slots)) ∙ sym (ap (λ o. is_some (number_of_note slots o)) is)
        ∙ sym (ap is_some (note-numbers slots notes slot)) ∙ stands ∙ ap is_some is in
        position-first (λ s. eqb s key) (slots ++ last ∷ []) ∙ first-push slots last key some ∙ sym (position-first (λ s. eqb s key) slots)

pub stands-push : (slots : List ℕ) (last : ℕ) (notes : List (Option ℕ)) (slot : ℕ) → Stands slots notes slot
    → Stands (slots ++ last ∷ []) notes slot
stands-push slots last notes slot stands = ap is_some (numbers-push slots last notes slot stands) ∙ stands
