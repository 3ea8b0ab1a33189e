-- Distinct places chosen one after another: which tuples of them there are, which tuple is the first, and sums over the prefixes of tuples.
use Rattle.std.specs.Prelude.{◌≡◌, ℕ, zero, suc, ◌+◌, ℤ, Bool, ◌==◌, ◌&&◌, not, false, List, [], ◌∷◌, ◌++◌, filter, map, sum_by}
use Rattle.std.specs.Prelude.{Option, None, Some, All, Contains, if◌then◌else◌}
use Rattle.std.specs.List.{flat_map, list_any}
use Rattle.std.specs.Ordering.{int_cmp, is_lt, nat_cmp, ordering_then}
use Rattle.std.specs.declared.cmp.Ordering.{Ordering}

-- what is chosen from: the places that may be taken, in order; and once some are taken, whether another is fit to be the next, and its rank
pub record Choice : Type 0 where
  pub free : List ℕ
  pub dock : List ℕ → ℕ → Bool
  pub rank : List ℕ → ℕ → ℤ

-- ---- tuples

-- the place is among these
abbrev pub is_among : List ℕ → ℕ → Bool
is_among places place = list_any (λ other. other == place) places

-- a place that isn't taken, and that is fit to be the next
unfoldable pub fits : Choice → List ℕ → ℕ → Bool
fits choice before place = not (is_among before place) && choice.dock before place

-- the places that may be the next
unfoldable pub next : Choice → List ℕ → List ℕ
next choice before = filter (fits choice before) choice.free

-- the tuples of n more places
unfoldable pub tuples : Choice → ℕ → List ℕ → List (List ℕ)
tuples choice zero before = [] ∷ []
tuples choice (suc n) before = flat_map (λ place. map (λ tuple. place ∷ tuple) (tuples choice n (before ++ place ∷ []))) (next choice before)

-- ---- their order

-- by rank falling, and at equal ranks by place
abbrev pub place_order : Choice → List ℕ → ℕ → ℕ → Ordering
place_order choice before a b = ordering_then (int_cmp (choice.rank before b) (choice.rank before a)) (nat_cmp a b)

-- by the first place at which they differ
unfoldable pub tuple_order : Choice → List ℕ → List ℕ → List ℕ → Ordering
tuple_order choice before [] [] = Ordering.Equal
tuple_order choice before [] (b ∷ ys) = Ordering.Less
tuple_order choice before (a ∷ xs) [] = Ordering.Greater
tuple_order choice before (a ∷ xs) (b ∷ ys) = ordering_then (place_order choice before a b) (tuple_order choice (before ++ a ∷ []) xs ys)

-- one of these, before which no other comes
pub record IsFirst (choice : Choice) (before : List ℕ) (ts : List (List ℕ)) (t : List ℕ) : Type 0 where
  pub among : Contains ts t
  pub none_before : All (λ other. is_lt (tuple_order choice before other t) ≡ false) ts

-- the first of these, or none where there are none
abbrev pub IsFirstOf : Choice → List (List ℕ) → Option (List ℕ) → Type 0
IsFirstOf choice ts None = ts ≡ []
IsFirstOf choice ts (Some t) = IsFirst choice [] ts t

-- the earlier of a tuple and another, if there is another
abbrev pub earlier : Choice → List ℕ → Option (List ℕ) → List ℕ
earlier choice a None = a
earlier choice a (Some b) = if is_lt (tuple_order choice [] b a) then b else a

-- the tuple before which no other comes, or none where there are none
unfoldable pub first_of : Choice → List (List ℕ) → Option (List ℕ)
first_of choice [] = None
first_of choice (t ∷ ts) = Some (earlier choice t (first_of choice ts))

-- ---- sums

-- the sum of a count over all prefixes of fewer than n places more
unfoldable pub over_prefixes : Choice → (List ℕ → ℕ) → ℕ → List ℕ → ℕ
over_prefixes choice count zero before = 0
over_prefixes choice count (suc n) before = over_prefixes choice count n before + sum_by (λ tuple. count (before ++ tuple)) (tuples choice n before)
