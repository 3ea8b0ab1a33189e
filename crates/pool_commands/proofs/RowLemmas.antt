-- Rows that are made one after another.
use Rattle.std.proofs.Common.{◌≡◌, ◌≤◌, ℕ, zero, suc, List, [], ◌∷◌, ◌++◌, length, map, take, Some, slice_get, ap, sym, ◌∙◌}
use Rattle.std.proofs.lemmas.List.{take_all}

module _ {A B : Type 0} (f : A → B) where
  -- the rows of the first items, and the next
  pub rows-more : (xs : List A) (i : ℕ) (x : A) (row : B) → slice_get xs i ≡ Some x → row ≡ f x → map f (take i xs) ++ row ∷ [] ≡ map f (take (suc i) xs)
  rows-more [] i x row at is = absurd (cc)
  rows-more (y ∷ xs) zero x row at is = let same : y ≡ x = cc in ap (λ (r : B). r ∷ []) (is ∙ ap f (sym same))
  rows-more (y ∷ xs) (suc i) x row at is = ap (λ (rows : List B). f y ∷ rows) (rows-more xs i x row at is)

  -- the rows of all items
  pub rows-all : (xs : List A) (i : ℕ) → length xs ≤ i → map f (take i xs) ≡ map f xs
  rows-all xs i past = ap (map f) (take_all i xs past)
