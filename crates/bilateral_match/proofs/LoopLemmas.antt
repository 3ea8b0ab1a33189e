-- Loops over lists, step by step.
use Rattle.std.proofs.Common.{◌≡◌, ◌<◌, ◌≤◌, ◌+◌, ℕ, List, [], ◌∷◌, ◌++◌, length, take, get_or, Option, sum_by, ap, sym}
use Rattle.std.proofs.Common.{◌∙◌, arith}
use Rattle.std.specs.List.{cons_option, filter_map}
use Rattle.std.proofs.lemmas.List.{take_all, take_more}
use Rattle.std.proofs.lemmas.List.Elements.{filter_map-append}
use Rattle.std.proofs.lemmas.List.Sums.{sum_by_more, sum_by_more_le}

-- ---- a bound that grows with each number

module _ (f : ℕ → ℕ) (xs ys : List ℕ) (same : xs ≡ ys) (i before now after : ℕ) (so_far : now ≤ before + sum_by f (take i xs)) where
  pub grows : i < length xs → after ≤ now + f (get_or xs i 0) → after ≤ before + sum_by f (take (i + 1) xs)
  grows within step = omega (arith, so_far, step, sum_by_more f xs i 0 within)

  pub stays : i < length xs → after ≤ now + f (get_or xs i 0) → after ≤ before + sum_by f ys
  stays within step = omega (arith, so_far, step, sum_by_more_le f xs i 0 within, ap (sum_by f) same)

  pub ends : length xs ≤ i → now ≤ before + sum_by f ys
  ends past = omega (arith, so_far, ap (sum_by f) (take_all i xs past ∙ same))

-- ---- what is found

module _ {Y : Type 0} (h : ℕ → Option Y) (xs : List ℕ) (i : ℕ) where
  pub finds-next : (found new : List Y) (o : Option Y) → i < length xs → found ≡ filter_map h (take i xs) → o ≡ h (get_or xs i 0)
      → new ≡ found ++ cons_option o [] → new ≡ filter_map h (take (i + 1) xs)
  finds-next found new o within so_far next added =
      added
      ∙ ap (λ ys. ys ++ cons_option o []) so_far
      ∙ ap (λ p. filter_map h (take i xs) ++ cons_option p []) next
      ∙ sym (filter_map-append h (take i xs) (get_or xs i 0 ∷ []))
      ∙ ap (filter_map h) (sym (take_more xs i 0 within))

  pub finds-all : (ys : List ℕ) (found : List Y) → xs ≡ ys → length xs ≤ i → found ≡ filter_map h (take i xs) → found ≡ filter_map h ys
  finds-all ys found same past so_far = so_far ∙ ap (filter_map h) (take_all i xs past ∙ same)
