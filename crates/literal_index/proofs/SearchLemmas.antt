-- What a search among rising numbers finds.
use Rattle.std.proofs.Common.{refl, arith, ◌≡◌, ◌<◌, ◌≤◌, sym, ℕ, Bool, true, false, List, length, get_or, nat_eq, nat_lt}
use Rattle.std.specs.Prelude.{Result, Ok, Err, is_ok, MatchResult}
use Rattle.std.specs.List.{list_any}
use Rattle.std.specs.List.Sorted.{IsBinarySearchResult, IsNonDecreasing}
use Rattle.std.specs.Ordering.{nat_cmp}
use Rattle.std.proofs.lemmas.List.Elements.{All-from_get_or}
use Rattle.std.proofs.lemmas.List.Folds.{list_any_at, list_any_none}
use Rattle.std.proofs.lemmas.List.Sorted.{searched}

unequal : (x y : ℕ) → (x ≡ y → ⊥) → nat_eq x y ≡ false
unequal x y ne = grind (arith, ne)

equal : (x y : ℕ) → y ≡ x → nat_eq x y ≡ true
equal x y e = grind arith

pub search_says : (xs : List ℕ) (x : ℕ) (r : Result ℕ ℕ) → IsBinarySearchResult (λ y. nat_cmp y x) xs r → IsNonDecreasing xs → is_ok r ≡ list_any (nat_eq x) xs
search_says xs x r found rising = by r (searched xs x r found (λ i j. rising i j 0))
  where
    by : (s : Result ℕ ℕ)
        → MatchResult s (λ i. (i < length xs) × (get_or xs i 0 ≡ x))
        (λ i. (i ≤ length xs) × ((k : ℕ) → k < i → get_or xs k 0 < x) × ((k : ℕ) → i ≤ k → k < length xs → x < get_or xs k 0))
        → is_ok s ≡ list_any (nat_eq x) xs
    by (Ok i) h = sym (list_any_at (nat_eq x) xs i 0 h.0 (equal x (get_or xs i 0) h.1))
    by (Err i) h = sym (list_any_none (nat_eq x) xs (All-from_get_or (λ y. nat_eq x y ≡ false) xs 0 (λ k lt. unequal x (get_or xs k 0) (λ e. by_side k lt e))))
      where
        side : (k : ℕ) (b : Bool) → nat_lt k i ≡ b → k < length xs → x ≡ get_or xs k 0 → ⊥
        side k true l lt e = let below = h.1 k (grind arith) in omega (arith, below, e)
        side k false l lt e = let above = h.2 k (grind arith) lt in omega (arith, above, e)

        by_side : (k : ℕ) → k < length xs → x ≡ get_or xs k 0 → ⊥
        by_side k lt e = side k (nat_lt k i) refl lt e
