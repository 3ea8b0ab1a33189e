-- Matches in order: there is one such list of given matches.
use Rattle.std.proofs.Common.{◌≡◌, ◌<◌, ◌+◌, ℕ, zero, suc, zero-le, Bool, true, false, refl, List, [], ◌∷◌, length, get_or, sum_by, cond}
use Rattle.std.proofs.Common.{if◌then◌else◌, All, ap, sym, ◌∙◌, arith, add-one, zero-add, ℤ, Less, Equal, Greater}
use Rattle.std.specs.Cmp.{IsTotalOrder, IsStrictWeakOrder}
use Rattle.std.specs.Ordering.{int_cmp, is_lt, nat_cmp, ordering_reverse, ordering_then}
use Rattle.std.specs.declared.cmp.Ordering.{Ordering}
use Rattle.std.specs.List.Sorted.{IsPermutation, IsSorted}
use Rattle.std.proofs.lemmas.Cmp.{back_total, int_cmp_total, int_ranked, nat_cmp_total, on_total, ranked, then_total}
use Rattle.std.proofs.lemmas.List.Elements.{All-cons, All-nil, All-tail}
use Rattle.std.proofs.lemmas.List.Sorted.{All-permutation, IsPermutation-cons, IsPermutation-middle, IsPermutation-refl, IsPermutation-trans, ranks_by}
use Rattle.std.proofs.lemmas.List.Sorted.{sorted_far}
use Rattle.std.proofs.lemmas.List.Sums.{sum_by-cons}
use Rattle.bilateral_match.specs.declared.hit.Match.{Match}
use Rattle.bilateral_match.specs.Answers.{arranged, entered, match_order}

-- ---- the order

match_total : IsTotalOrder match_order
match_total = then_total (back_total (on_total (λ (m : Match). m.rank) int_cmp_total)) (on_total (λ (m : Match). m.place) nat_cmp_total)

pub match_weak : IsStrictWeakOrder (λ a b. is_lt (match_order a b))
match_weak = ranks_by match_total (λ (m : Match). m)

-- b is not before a
abbrev pub NotAfter : Match → Match → Type 0
NotAfter a b = is_lt (match_order b a) ≡ false

not_after-itself : (a : Match) → NotAfter a a
not_after-itself a = by (is_lt (match_order a a)) refl
  where
    by : (b : Bool) → is_lt (match_order a a) ≡ b → is_lt (match_order a a) ≡ false
    by true e = match_weak.one_way a a e
    by false e = e

-- two matches of which neither is before the other are one
ties-are-one : (a b : Match) → is_lt (match_order a b) ≡ false → is_lt (match_order b a) ≡ false → a ≡ b
ties-are-one a b h k =
    by_rank (int_cmp b.rank a.rank) (nat_cmp a.place b.place) refl refl h (turned (match_order a b) (match_order b a) (match_total.antisymm b a) k)
  where
    turned : (r s : Ordering) → s ≡ ordering_reverse r → is_lt s ≡ false → r ≡ Greater → ⊥
    turned r s e f g = let same : s ≡ Less = e ∙ ap ordering_reverse g in let other : true ≡ false = sym (ap is_lt same) ∙ f in cc

    same_parts : b.rank ≡ a.rank → a.place ≡ b.place → a ≡ b
    same_parts ranks places =
        ap (λ (p : ℕ). let m : Match = record { place = p; rank = a.rank } in m) places
        ∙ ap (λ (r : ℤ). let m : Match = record { place = b.place; rank = r } in m) (sym ranks)

    by_rank : (r s : Ordering) → int_cmp b.rank a.rank ≡ r → nat_cmp a.place b.place ≡ s → is_lt (ordering_then r s) ≡ false
        → (ordering_then r s ≡ Greater → ⊥) → a ≡ b
    by_rank Less s ranks places f g = absurd (cc)
    by_rank Greater s ranks places f g = absurd (g refl)
    by_rank Equal Less ranks places f g = absurd (cc)
    by_rank Equal Greater ranks places f g = absurd (g refl)
    by_rank Equal Equal ranks places f g = same_parts (int_ranked b.rank a.rank Equal (sym ranks)) (ranked a.place b.place Equal (sym places))

-- ---- each before those behind it

abbrev pub InOrder : List Match → Type 0
InOrder [] = Unit {0}
InOrder (m ∷ ms) = All (NotAfter m) ms × InOrder ms

adjacent : (ms : List Match) → InOrder ms → (k : ℕ) (d : Match) → suc k < length ms
    → is_lt (match_order (get_or ms (suc k) d) (get_or ms k d)) ≡ false
adjacent [] h k d within = absurd (omega (arith, within))
adjacent (m ∷ ms) h zero d within = h.0 0 d (omega (arith, within))
adjacent (m ∷ ms) h (suc k) d within = adjacent ms h.1 k d (omega (arith, within))

pub sorted-from : (ms : List Match) → InOrder ms → IsSorted match_order ms
sorted-from ms h k d low within = rw (add-one k) (adjacent ms h k d (omega (arith, within)))

tail-sorted : (m : Match) (ms : List Match) → IsSorted match_order (m ∷ ms) → IsSorted match_order ms
tail-sorted m ms h k d low within =
    let step = h (suc k) d zero-le (omega (arith, within)) in
    rw (add-one k) (rw (add-one (suc k)) at step)

pub in-order-from : (ms : List Match) → IsSorted match_order ms → InOrder ms
in-order-from [] h = tt
in-order-from (m ∷ ms) h = (
  λ k d within. sorted_far (λ a b. is_lt (match_order a b)) match_weak (m ∷ ms) h 0 (suc k) d zero-le (omega (arith, within)),
  in-order-from ms (tail-sorted m ms h),
)

-- ---- one more match

entered-permutation : (m : Match) (ms : List Match) → IsPermutation (m ∷ ms) (entered m ms)
entered-permutation m [] = IsPermutation-refl (m ∷ [])
entered-permutation m (o ∷ os) = by (entered-permutation m os) (is_lt (match_order m o))
  where
    by : IsPermutation (m ∷ os) (entered m os) → (b : Bool) → IsPermutation (m ∷ o ∷ os) (if b then m ∷ o ∷ os else o ∷ entered m os)
    by behind true = IsPermutation-refl (m ∷ o ∷ os)
    by behind false =
        IsPermutation-trans (m ∷ o ∷ os) (o ∷ m ∷ os) (o ∷ entered m os) (IsPermutation-middle (m ∷ []) o os)
        (IsPermutation-cons o (m ∷ os) (entered m os) behind)

pub arranged-permutation : (ms : List Match) → IsPermutation ms (arranged ms)
arranged-permutation [] = IsPermutation-refl []
arranged-permutation (m ∷ ms) =
    IsPermutation-trans (m ∷ ms) (m ∷ arranged ms) (entered m (arranged ms)) (IsPermutation-cons m ms (arranged ms) (arranged-permutation ms))
    (entered-permutation m (arranged ms))

entered-in-order : (m : Match) (ms : List Match) → InOrder ms → InOrder (entered m ms)
entered-in-order m [] h = (All-nil (NotAfter m), tt)
entered-in-order m (o ∷ os) h = by (entered-in-order m os h.1) (is_lt (match_order m o)) refl
  where
    by : InOrder (entered m os) → (b : Bool) → is_lt (match_order m o) ≡ b → InOrder (if b then m ∷ o ∷ os else o ∷ entered m os)
    by behind true before =
        let over : NotAfter m o = match_weak.one_way m o before in
        (All-cons (NotAfter m) o os over (λ k d within. match_weak.chain (get_or os k d) o m (h.0 k d within) over), h)
    by behind false after =
        (All-permutation (NotAfter o) (m ∷ os) (entered m os) (entered-permutation m os) (All-cons (NotAfter o) m os after h.0), behind)

pub arranged-in-order : (ms : List Match) → InOrder (arranged ms)
arranged-in-order [] = tt
arranged-in-order (m ∷ ms) = entered-in-order m (arranged ms) (arranged-in-order ms)

-- ---- lists of the same matches

-- all sums over them are the same
abbrev pub SameSums : List Match → List Match → Type 0
SameSums xs ys = (f : Match → ℕ) → sum_by f xs ≡ sum_by f ys

-- none of a list is before m
none-before : (m : Match) (ms : List Match) → All (NotAfter m) ms → sum_by (λ o. cond (is_lt (match_order o m)) 1 0) ms ≡ 0
none-before m [] h = refl
none-before m (o ∷ os) h =
    sum_by-cons (λ o. cond (is_lt (match_order o m)) 1 0) o os
    ∙ ap (λ (b : Bool). cond b 1 0 + sum_by (λ o. cond (is_lt (match_order o m)) 1 0) os) (h 0 o (omega arith))
    ∙ zero-add (sum_by (λ o. cond (is_lt (match_order o m)) 1 0) os)
    ∙ none-before m os (All-tail (NotAfter m) o os h)

first-not-before : (m o : Match) (os : List Match) → sum_by (λ o. cond (is_lt (match_order o m)) 1 0) (o ∷ os) ≡ 0 → is_lt (match_order o m) ≡ false
first-not-before m o os e = by (is_lt (match_order o m)) (sym (sum_by-cons (λ o. cond (is_lt (match_order o m)) 1 0) o os) ∙ e)
  where
    by : (b : Bool) → cond b 1 0 + sum_by (λ o. cond (is_lt (match_order o m)) 1 0) os ≡ 0 → b ≡ false
    by true h = absurd (omega (arith, h))
    by false h = refl

head-first : (x y : Match) (xs ys : List Match) → InOrder (y ∷ ys) → SameSums (x ∷ xs) (y ∷ ys) → is_lt (match_order x y) ≡ false
head-first x y xs ys h same =
    first-not-before y x xs (same (λ o. cond (is_lt (match_order o y)) 1 0) ∙ none-before y (y ∷ ys) (All-cons (NotAfter y) y ys (not_after-itself y) h.0))

tails-same : (x y : Match) (xs ys : List Match) → x ≡ y → SameSums (x ∷ xs) (y ∷ ys) → SameSums xs ys
tails-same x y xs ys one same f =
    let whole : f x + sum_by f xs ≡ f y + sum_by f ys = sym (sum_by-cons f x xs) ∙ same f ∙ sum_by-cons f y ys in
    let heads : f x ≡ f y = ap f one in
    omega (arith, whole, heads)

-- are one list where both are in order
pub one-order : (xs ys : List Match) → InOrder xs → InOrder ys → SameSums xs ys → xs ≡ ys
one-order [] [] h k same = refl
one-order [] (y ∷ ys) h k same = absurd (omega (arith, same (λ m. 1), sum_by-cons (λ m. 1) y ys))
one-order (x ∷ xs) [] h k same = absurd (omega (arith, same (λ m. 1), sum_by-cons (λ m. 1) x xs))
one-order (x ∷ xs) (y ∷ ys) h k same =
    let one : x ≡ y = ties-are-one x y (head-first x y xs ys k same) (head-first y x ys xs h (λ f. sym (same f))) in
    let others : xs ≡ ys = one-order xs ys h.1 k.1 (tails-same x y xs ys one same) in
    cc
