-- The items of a string list.
use Rattle.std.proofs.Common.{◌≡◌, ℕ, ◌<◌, ◌≤◌, ◌+◌, ◌⊎◌, inl, inr, get_or, replicate, ◌||◌, ◌&&◌, arith, Bool, true, false, cond, ltb, eqb, List, [], ◌∷◌}
use Rattle.std.proofs.Common.{length, filter, refl, ◌∙◌, ap}
use Rattle.std.proofs.lemmas.Bool.{cases_lt}
use Rattle.std.proofs.lemmas.List.{get_or-replicate, get_or_past, length-replicate}
use Rattle.std.specs.List.{list_any, onto_first, slice_split}
use Rattle.builtin_funcs.specs.Texts.{items_of}

-- tests that agree split alike
slice_split-same : (p q : ℕ → Bool) → ((x : ℕ) → p x ≡ q x) → (xs : List ℕ) → slice_split p xs ≡ slice_split q xs
slice_split-same p q same [] = refl
slice_split-same p q same (x ∷ xs) =
    ap (λ parts. cond (p x) ([] ∷ parts) (onto_first x parts)) (slice_split-same p q same xs)
    ∙ ap (λ b. cond b ([] ∷ slice_split q xs) (onto_first x (slice_split q xs))) (same x)

pub items_of-marks : (delimiters : List ℕ) (marked : ℕ → Bool) → ((byte : ℕ) → marked byte ≡ list_any (λ d. eqb d byte) delimiters) → (bytes : List ℕ)
    → filter (λ part. ltb 0 (length part)) (slice_split marked bytes) ≡ items_of delimiters bytes
items_of-marks delimiters marked same bytes = ap (filter (λ part. ltb 0 (length part))) (slice_split-same marked _ same bytes)

-- to find one that passes two tests is to find one that passes the second among those that pass the first
any_kept : {X : Type 0} (first : Bool) (test : X → Bool) (x : X) (xs : List X) (found : Bool) → found ≡ list_any test xs
    → (first && test x || found) ≡ list_any test (cond first (x ∷ xs) xs)
any_kept true test x xs found is = ap (λ b. test x || b) is
any_kept false test x xs found is = is

pub any-filter : {X : Type 0} (first test : X → Bool) (xs : List X) → list_any (λ x. first x && test x) xs ≡ list_any test (filter first xs)
any-filter first test [] = refl
any-filter first test (x ∷ xs) = any_kept (first x) test x (filter first xs) (list_any (λ y. first y && test y) xs) (any-filter first test xs)

at_or_past : (n i : ℕ) → (i < n) ⊎ (n ≤ i) → get_or (replicate n false) i false ≡ false
at_or_past n i (inl within) = get_or-replicate n i false false within
at_or_past n i (inr past) = get_or_past (replicate n false) i false (omega (arith, length-replicate n false))

-- at the start no byte is marked
pub nothing_marked : (n byte : ℕ) (b : Bool) → (get_or (replicate n false) byte false || b) ≡ b
nothing_marked n byte b = ap (λ m. m || b) (at_or_past n byte (cases_lt byte n))

-- ---- there are no more items than bytes

abbrev items_in : List (List ℕ) → ℕ
items_in parts = length (filter (λ part. ltb 0 (length part)) parts)

items_in-onto_first : (x : ℕ) (parts : List (List ℕ)) → items_in (onto_first x parts) ≤ items_in parts + 1
items_in-onto_first x [] = omega arith
items_in-onto_first x (part ∷ parts) = by_part (ltb 0 (length (x ∷ part))) (ltb 0 (length part))
  where
    by_part : (longer shorter : Bool)
        → length (cond longer ((x ∷ part) ∷ filter (λ q. ltb 0 (length q)) parts) (filter (λ q. ltb 0 (length q)) parts))
        ≤ length (cond shorter (part ∷ filter (λ q. ltb 0 (length q)) parts) (filter (λ q. ltb 0 (length q)) parts)) + 1
    by_part true true = omega arith
    by_part true false = omega arith
    by_part false true = omega arith
    by_part false false = omega arith

items_in-split : (p : ℕ → Bool) (xs : List ℕ) → items_in (slice_split p xs) ≤ length xs
items_in-split p [] = omega arith
items_in-split p (x ∷ xs) = by_first (p x) (items_in-split p xs)
  where
    by_first : (b : Bool) → items_in (slice_split p xs) ≤ length xs
        → items_in (cond b ([] ∷ slice_split p xs) (onto_first x (slice_split p xs))) ≤ length (x ∷ xs)
    by_first true fewer = omega arith
    by_first false fewer = omega (arith, items_in-onto_first x (slice_split p xs))

pub length-items_of : (delimiters bytes : List ℕ) → length (items_of delimiters bytes) ≤ length bytes
length-items_of delimiters bytes = items_in-split (λ byte. list_any (λ d. eqb d byte) delimiters) bytes
