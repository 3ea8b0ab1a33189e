-- Lists: sums over lists of lists, what holds of all of their items, and what passes a test.
use Rattle.std.proofs.Common.{◌≡◌, ◌<◌, ◌≤◌, ◌+◌, ℕ, zero, suc, Bool, true, false, cond, not, ◌&&◌, refl, List, [], ◌∷◌}
use Rattle.std.proofs.Common.{◌++◌, length, map, filter, get_or, set, sum_by, swap, take, if◌then◌else◌, ◌*◌, All, Contains, ap, sym, ◌∙◌}
use Rattle.std.proofs.Common.{subst, arith}
use Rattle.std.specs.List.{flat_map}
use Rattle.std.specs.List.Sorted.{IsPermutation}
use Rattle.std.proofs.lemmas.List.Elements.{All-append, All-head, All-nil, All-tail, Contains-append_left, Contains-append_right}
use Rattle.std.proofs.lemmas.List.Sorted.{IsPermutation-cons, IsPermutation-keeps, IsPermutation-middle, IsPermutation-refl, IsPermutation-trans}
use Rattle.std.proofs.lemmas.List.{take_all}
use Rattle.std.proofs.lemmas.List.Sums.{sum_by-append, sum_by-cons, sum_by_more, sum_by_more_le}

-- ---- sums

pub sum_by-same : {X : Type 0} (f g : X → ℕ) → ((x : X) → f x ≡ g x) → (xs : List X) → sum_by f xs ≡ sum_by g xs
sum_by-same f g same [] = refl
sum_by-same f g same (x ∷ xs) = omega (arith, sum_by-cons f x xs, sum_by-cons g x xs, same x, sum_by-same f g same xs)

pub sum_by-none : {X : Type 0} (f : X → ℕ) → ((x : X) → f x ≡ 0) → (xs : List X) → sum_by f xs ≡ 0
sum_by-none f none [] = refl
sum_by-none f none (x ∷ xs) = omega (arith, sum_by-cons f x xs, none x, sum_by-none f none xs)

pub sum_by-both : {X : Type 0} (f g : X → ℕ) (xs : List X) → sum_by f xs + sum_by g xs ≡ sum_by (λ x. f x + g x) xs
sum_by-both f g [] = refl
sum_by-both f g (x ∷ xs) = omega (arith, sum_by-cons f x xs, sum_by-cons g x xs, sum_by-cons (λ x. f x + g x) x xs, sum_by-both f g xs)

pub sum_by-map : {X Y : Type 0} (g : Y → ℕ) (f : X → Y) (xs : List X) → sum_by g (map f xs) ≡ sum_by (λ x. g (f x)) xs
sum_by-map g f [] = refl
sum_by-map g f (x ∷ xs) = omega (arith, sum_by-cons g (f x) (map f xs), sum_by-cons (λ x. g (f x)) x xs, sum_by-map g f xs)

pub sum_by-flat_map : {X Y : Type 0} (g : Y → ℕ) (f : X → List Y) (xs : List X) → sum_by g (flat_map f xs) ≡ sum_by (λ x. sum_by g (f x)) xs
sum_by-flat_map g f [] = refl
sum_by-flat_map g f (x ∷ xs) = omega (arith, sum_by-append g (f x) (flat_map f xs), sum_by-cons (λ x. sum_by g (f x)) x xs, sum_by-flat_map g f xs)

-- ---- lists of lists

pub All-flat_map : {X Y : Type 0} (P : Y → Type 0) (f : X → List Y) (xs : List X) → All (λ x. All P (f x)) xs → All P (flat_map f xs)
All-flat_map P f [] h = All-nil P
All-flat_map P f (x ∷ xs) h =
    All-append P (f x) (flat_map f xs) (All-head (λ x. All P (f x)) x xs h) (All-flat_map P f xs (All-tail (λ x. All P (f x)) x xs h))

pub flat_map-none : {X Y : Type 0} (f : X → List Y) (xs : List X) → All (λ x. f x ≡ []) xs → flat_map f xs ≡ []
flat_map-none f [] h = refl
flat_map-none f (x ∷ xs) h =
    ap (λ ys. ys ++ flat_map f xs) (All-head (λ x. f x ≡ []) x xs h) ∙ flat_map-none f xs (All-tail (λ x. f x ≡ []) x xs h)

pub Contains-flat_map : {X Y : Type 0} (f : X → List Y) (xs : List X) (x : X) (y : Y) → Contains xs x → Contains (f x) y → Contains (flat_map f xs) y
Contains-flat_map f [] x y h k = absurd (omega (arith, h.1))
Contains-flat_map f (z ∷ xs) x y (zero, within, is) k = Contains-append_left (f z) (flat_map f xs) y (subst (λ w. Contains (f w) y) (sym is) k)
Contains-flat_map f (z ∷ xs) x y (suc i, within, is) k =
    Contains-append_right (f z) (flat_map f xs) y (Contains-flat_map f xs x y (i, omega (arith, within), is) k)

pub Contains-map : {X Y : Type 0} (f : X → Y) (xs : List X) (x : X) → Contains xs x → Contains (map f xs) (f x)
Contains-map f [] x h = absurd (omega (arith, h.1))
Contains-map f (z ∷ xs) x (zero, within, is) = (zero, omega arith, ap f is)
Contains-map f (z ∷ xs) x (suc i, within, is) = let rest = Contains-map f xs x (i, omega (arith, within), is) in (suc rest.0, omega (arith, rest.1), rest.2)

-- ---- what passes tests

-- a test that is passed only where another is needs not be preceded by that
pub filter-narrow : {X : Type 0} (p q : X → Bool) → ((x : X) → p x ≡ true → q x ≡ true) → (xs : List X) → filter p (filter q xs) ≡ filter p xs
filter-narrow p q gives [] = refl
filter-narrow {X} p q gives (x ∷ xs) = by (q x) (p x) refl refl (filter-narrow p q gives xs)
  where
    by : (b c : Bool) → q x ≡ b → p x ≡ c → filter p (filter q xs) ≡ filter p xs
        → filter p (cond b (x ∷ filter q xs) (filter q xs)) ≡ cond c (x ∷ filter p xs) (filter p xs)
    by true true asked passed rest = ap (λ d. cond d (x ∷ filter p (filter q xs)) (filter p (filter q xs))) passed ∙ ap (λ (ys : List X). x ∷ ys) rest
    by true false asked passed rest = ap (λ d. cond d (x ∷ filter p (filter q xs)) (filter p (filter q xs))) passed ∙ rest
    by false true asked passed rest = absurd (cc (gives x passed))
    by false false asked passed rest = rest

-- two tests one after another are both in one
pub filter-both : {X : Type 0} (p q : X → Bool) (xs : List X) → filter q (filter p xs) ≡ filter (λ x. p x && q x) xs
filter-both p q [] = refl
filter-both {X} p q (x ∷ xs) = by (p x) (filter-both p q xs)
  where
    by : (b : Bool) → filter q (filter p xs) ≡ filter (λ y. p y && q y) xs
        → filter q (cond b (x ∷ filter p xs) (filter p xs)) ≡ cond (b && q x) (x ∷ filter (λ y. p y && q y) xs) (filter (λ y. p y && q y) xs)
    by true rest = ap (λ (ys : List X). cond (q x) (x ∷ ys) ys) rest
    by false rest = rest

-- ---- permutations and tests

module _ {X : Type 0} (p : X → Bool) where
  abbrev Kept : List X → List X → Type 0
  Kept xs ys = IsPermutation (filter p xs) (filter p ys)

  kept-behind : (x : X) (xs ys : List X) → Kept xs ys → Kept (x ∷ xs) (x ∷ ys)
  kept-behind x xs ys h = by (p x)
    where
      by : (b : Bool) → IsPermutation (cond b (x ∷ filter p xs) (filter p xs)) (cond b (x ∷ filter p ys) (filter p ys))
      by true = IsPermutation-cons x (filter p xs) (filter p ys) h
      by false = h

  kept-turned : (x y : X) (xs : List X) → Kept (x ∷ y ∷ xs) (y ∷ x ∷ xs)
  kept-turned x y xs = by (p x) (p y)
    where
      by : (b c : Bool)
          → IsPermutation (cond b (x ∷ cond c (y ∷ filter p xs) (filter p xs)) (cond c (y ∷ filter p xs) (filter p xs)))
          (cond c (y ∷ cond b (x ∷ filter p xs) (filter p xs)) (cond b (x ∷ filter p xs) (filter p xs)))
      by true true = IsPermutation-middle (x ∷ []) y (filter p xs)
      by true false = IsPermutation-refl (x ∷ filter p xs)
      by false true = IsPermutation-refl (y ∷ filter p xs)
      by false false = IsPermutation-refl (filter p xs)

  kept-far : (xs ys zs : List X) → Kept xs ys → Kept ys zs → Kept xs zs
  kept-far xs ys zs h k = IsPermutation-trans (filter p xs) (filter p ys) (filter p zs) h k

  -- the head and a later item exchanged
  kept-to-head : (xs : List X) (j : ℕ) (x d : X) → j < length xs → Kept (x ∷ xs) (get_or xs j d ∷ set xs j x)
  kept-to-head [] j x d h = absurd (omega (arith, h))
  kept-to-head (y ∷ xs) zero x d h = kept-turned x y xs
  kept-to-head (y ∷ xs) (suc j) x d h =
      let z = get_or xs j d in
      kept-far (x ∷ y ∷ xs) (y ∷ x ∷ xs) (z ∷ y ∷ set xs j x) (kept-turned x y xs)
      (kept-far (y ∷ x ∷ xs) (y ∷ z ∷ set xs j x) (z ∷ y ∷ set xs j x)
      (kept-behind y (x ∷ xs) (z ∷ set xs j x) (kept-to-head xs j x d (omega (arith, h)))) (kept-turned y z (set xs j x)))

  -- two items exchanged
  kept-exchanged : (xs : List X) (i j : ℕ) (d : X) → i < length xs → j < length xs → Kept xs (set (set xs i (get_or xs j d)) j (get_or xs i d))
  kept-exchanged [] i j d h k = absurd (omega (arith, h))
  kept-exchanged (x ∷ xs) zero zero d h k = IsPermutation-refl (filter p (x ∷ xs))
  kept-exchanged (x ∷ xs) zero (suc j) d h k = kept-to-head xs j x d (omega (arith, k))
  kept-exchanged (x ∷ xs) (suc i) zero d h k = kept-to-head xs i x d (omega (arith, h))
  kept-exchanged (x ∷ xs) (suc i) (suc j) d h k =
      kept-behind x xs (set (set xs i (get_or xs j d)) j (get_or xs i d)) (kept-exchanged xs i j d (omega (arith, h)) (omega (arith, k)))

  kept-swapped : (xs : List X) (i j : ℕ) → i < length xs → j < length xs → Kept xs (swap xs i j)
  kept-swapped [] i j h k = IsPermutation-refl []
  kept-swapped (x ∷ xs) i j h k = kept-exchanged (x ∷ xs) i j x h k

  -- what passes a test has its items in another order where the list has
  pub IsPermutation-filter : (xs ys : List X) → IsPermutation xs ys → IsPermutation (filter p xs) (filter p ys)
  IsPermutation-filter xs ys h =
      IsPermutation-keeps xs (Kept xs) (IsPermutation-refl (filter p xs))
      (λ l i j low high so_far. kept-far xs l (swap l i j) so_far (kept-swapped l i j low high)) ys h

-- ---- sums over what passes

pub sum_by-passing : {X : Type 0} (p : X → Bool) (f : X → ℕ) (xs : List X)
    → sum_by (λ x. if p x then 0 else f x) xs ≡ sum_by f (filter (λ x. not (p x)) xs)
sum_by-passing p f [] = refl
sum_by-passing {X} p f (x ∷ xs) = sum_by-cons (λ y. if p y then 0 else f y) x xs ∙ by (p x) (sum_by-passing p f xs)
  where
    by : (b : Bool) → sum_by (λ y. if p y then 0 else f y) xs ≡ sum_by f (filter (λ y. not (p y)) xs)
        → (if b then 0 else f x) + sum_by (λ y. if p y then 0 else f y) xs
        ≡ sum_by f (cond (not b) (x ∷ filter (λ y. not (p y)) xs) (filter (λ y. not (p y)) xs))
    by true rest = omega (arith, rest)
    by false rest = omega (arith, rest, sum_by-cons f x (filter (λ y. not (p y)) xs))

pub sum_by-constant : {X : Type 0} (n : ℕ) (xs : List X) → sum_by (λ x. n) xs ≡ n * length xs
sum_by-constant n [] = omega arith
sum_by-constant {X} n (x ∷ xs) = let rest = sum_by-constant n xs in omega (arith, rest, sum_by-cons (λ (y : X). n) x xs)

-- two counts that agree on all items of a list
pub sum_by-agree : {X : Type 0} (f g : X → ℕ) (xs : List X) → All (λ x. f x ≡ g x) xs → sum_by f xs ≡ sum_by g xs
sum_by-agree f g [] same = refl
sum_by-agree f g (x ∷ xs) same =
    omega (arith, sum_by-cons f x xs, sum_by-cons g x xs, All-head (λ y. f y ≡ g y) x xs same, sum_by-agree f g xs (All-tail (λ y. f y ≡ g y) x xs same))

-- ---- mapped lists, by place

pub mapped-at : {X Y : Type 0} (f : X → Y) (xs : List X) (k : ℕ) (d : Y) (e : X) → k < length xs → get_or (map f xs) k d ≡ f (get_or xs k e)
mapped-at f [] k d e within = absurd (omega (arith, within))
mapped-at f (x ∷ xs) zero d e within = refl
mapped-at f (x ∷ xs) (suc k) d e within = mapped-at f xs k d e (omega (arith, within))

pub length-mapped : {X Y : Type 0} (f : X → Y) (xs : List X) → length (map f xs) ≡ length xs
length-mapped f [] = refl
length-mapped f (x ∷ xs) = ap suc (length-mapped f xs)

pub map-more : {X Y : Type 0} (f : X → Y) (xs : List X) (x : X) → map f (xs ++ x ∷ []) ≡ map f xs ++ f x ∷ []
map-more f [] x = refl
map-more f (y ∷ xs) x = ap (λ ys. f y ∷ ys) (map-more f xs x)

pub length-more : {X : Type 0} (xs : List X) (x : X) → length (xs ++ x ∷ []) ≡ suc (length xs)
length-more [] x = refl
length-more (y ∷ xs) x = ap suc (length-more xs x)

-- ---- multiples

pub mul-add : (k a b : ℕ) → k * (a + b) ≡ k * a + k * b
mul-add k a b = omega arith

pub sum_by-multiple : {X : Type 0} (k : ℕ) (f : X → ℕ) (xs : List X) → sum_by (λ x. k * f x) xs ≡ k * sum_by f xs
sum_by-multiple k f [] = omega arith
sum_by-multiple k f (x ∷ xs) =
    sum_by-cons (λ y. k * f y) x xs
    ∙ ap (λ m. k * f x + m) (sum_by-multiple k f xs)
    ∙ sym (mul-add k (f x) (sum_by f xs))
    ∙ ap (λ m. k * m) (sym (sum_by-cons f x xs))

-- ---- a counter that grows with each item of a list

module _ {X : Type 0} (f : X → ℕ) (xs : List X) (i before now : ℕ) (so_far : now ≤ before + sum_by f (take i xs)) where
  module _ (x : X) (after : ℕ) (within : i < length xs) (at : x ≡ get_or xs i x) (step : after ≤ now + f x) where
    pub count-next : after ≤ before + sum_by f (take (i + 1) xs)
    count-next = let same : f x ≡ f (get_or xs i x) = ap f at in omega (arith, so_far, step, same, sum_by_more f xs i x within)

    pub count-within : after ≤ before + sum_by f xs
    count-within = let same : f x ≡ f (get_or xs i x) = ap f at in omega (arith, so_far, step, same, sum_by_more_le f xs i x within)

  pub count-all : length xs ≤ i → now ≤ before + sum_by f xs
  count-all past = let whole : sum_by f (take i xs) ≡ sum_by f xs = ap (sum_by f) (take_all i xs past) in omega (arith, so_far, whole)
