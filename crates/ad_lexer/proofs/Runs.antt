-- Runs at the front of a list, and tables.
use Rattle.std.proofs.Common.{◌≡◌, ℕ, suc, ◌<◌, ◌≤◌, Bool, true, false, List, [], ◌∷◌, ◌++◌, length, take, drop, slice_index, refl, ◌∙◌, ap, inl, inr, arith}
use Rattle.std.proofs.lemmas.Bool.{cases_Bool, and_parts, and_from}
use Rattle.std.specs.List.{list_all, list_any, prefix_len}

-- where some member passes one test and each member passes another, one passes both
pub any_all : {X : Type 0} (p q : X → Bool) (xs : List X) → list_any p xs ≡ true → list_all q xs ≡ true → (x : X) × (p x ≡ true) × (q x ≡ true)
any_all p q [] some each = absurd (cc)
any_all p q (x ∷ xs) some each =
    let both = and_parts (q x) (list_all q xs) each in
    elim (cases_Bool (p x)) [
      | inl is ↦ (x, is, both.0)
      | inr isnt ↦ any_all p q xs (rw isnt at some) both.1
    ]

pub run_step : (p : ℕ → Bool) (x : ℕ) (xs : List ℕ) → p x ≡ true → prefix_len p (x ∷ xs) ≡ suc (prefix_len p xs)
run_step p x xs is = rw is (omega arith)

pub run_stop : (p : ℕ → Bool) (x : ℕ) (xs : List ℕ) → p x ≡ false → prefix_len p (x ∷ xs) ≡ 0
run_stop p x xs isnt = rw isnt refl

-- each byte of a run passes
pub run_passes : (p : ℕ → Bool) (xs : List ℕ) → list_all p (take (prefix_len p xs) xs) ≡ true
run_passes p [] = refl
run_passes p (x ∷ xs) =
    elim (cases_Bool (p x)) [
      | inl is ↦ rw (run_step p x xs is) (and_from (p x) _ is (run_passes p xs))
      | inr isnt ↦ rw (run_stop p x xs isnt) refl
    ]

-- bytes that pass are no longer than the run that they stand in
pub run_reaches : (p : ℕ → Bool) (xs ys : List ℕ) → list_all p xs ≡ true → length xs ≤ prefix_len p (xs ++ ys)
run_reaches p [] ys each = omega arith
run_reaches p (x ∷ xs) ys each =
    let both = and_parts (p x) (list_all p xs) each in
    let more = run_reaches p xs ys both.1 in
    rw (run_step p x (xs ++ ys) both.0) (omega arith)

-- a run ends at the end of the list or at an element that doesn't pass
pub run_ends : (p : ℕ → Bool) (xs : List ℕ) → 0 < length (drop (prefix_len p xs) xs) → p (slice_index (drop (prefix_len p xs) xs) 0) ≡ false
run_ends p [] some = absurd (omega arith)
run_ends p (x ∷ xs) some =
    elim (cases_Bool (p x)) [
      | inl is ↦ let step = run_step p x xs is in rw step (run_ends p xs (rw step at some))
      | inr isnt ↦ rw (run_stop p x xs isnt) isnt
    ]

-- elements that pass are a run where the next doesn't
pub run_exact : (p : ℕ → Bool) (xs ys : List ℕ) → list_all p xs ≡ true → (0 < length ys → p (slice_index ys 0) ≡ false) → prefix_len p (xs ++ ys) ≡ length xs
run_exact p [] [] each ends = refl
run_exact p [] (y ∷ ys) each ends = run_stop p y ys (ends (omega arith))
run_exact p (x ∷ xs) ys each ends =
    let both = and_parts (p x) (list_all p xs) each in
    run_step p x (xs ++ ys) both.0 ∙ ap (λ (n : ℕ). suc n) (run_exact p xs ys both.1 ends)

-- what passes one test passes another that is weaker
pub all_weaker : (p q : ℕ → Bool) (weaker : (x : ℕ) → p x ≡ true → q x ≡ true) (xs : List ℕ) → list_all p xs ≡ true → list_all q xs ≡ true
all_weaker p q weaker [] each = refl
all_weaker p q weaker (x ∷ xs) each =
    let both = and_parts (p x) (list_all p xs) each in
    and_from (q x) _ (weaker x both.0) (all_weaker p q weaker xs both.1)
