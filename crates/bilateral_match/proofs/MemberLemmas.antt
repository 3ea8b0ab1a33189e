-- Members in order: the first of them, whatever the order in which they come.
use Rattle.std.proofs.Common.{◌≡◌, ◌+◌, ℕ, suc, Bool, true, false, refl, List, [], ◌∷◌, ◌++◌, cond, sum_by, Option, None, Some}
use Rattle.std.proofs.Common.{if◌then◌else◌, All, Contains, ap, sym, ◌∙◌, subst, arith, zero-add, ℤ, Less, Equal, Greater}
use Rattle.std.specs.Cmp.{IsTotalOrder, IsStrictWeakOrder}
use Rattle.std.specs.Ordering.{int_cmp, is_lt, nat_cmp, ordering_reverse, ordering_then}
use Rattle.std.specs.declared.cmp.Ordering.{Ordering}
use Rattle.std.specs.List.{cons_option}
use Rattle.std.proofs.lemmas.Cmp.{back_total, int_cmp_total, int_ranked, nat_cmp_total, on_total, ranked, then_total}
use Rattle.std.proofs.lemmas.List.Elements.{All-append, All-cons, All-contains, All-nil, All-push, All-tail, Contains-append_left, Contains-push}
use Rattle.std.proofs.lemmas.List.Sorted.{ranks_by}
use Rattle.std.proofs.lemmas.List.Sums.{sum_by-cons}
use Rattle.dock_match.specs.declared.preemption.Preemption.{Preemption}
use Rattle.dock_match.specs.Preemption.{order_of}
use Rattle.bilateral_match.specs.declared.member.Member.{Member}
use Rattle.bilateral_match.specs.Members.{IsBest, IsFirst, earlier, first_of, member_order}

-- ---- the order

member_total : IsTotalOrder member_order
member_total =
    then_total
    (then_total
    (then_total (back_total (on_total (λ (m : Member). m.rank) int_cmp_total)) (on_total (λ (m : Member). order_of m.preemption) nat_cmp_total))
    (back_total (on_total (λ (m : Member). m.regard) int_cmp_total)))
    (on_total (λ (m : Member). m.place) nat_cmp_total)

pub member_weak : IsStrictWeakOrder (λ a b. is_lt (member_order a b))
member_weak = ranks_by member_total (λ (m : Member). m)

-- b is not before a
abbrev pub NotBefore : Member → Member → Type 0
NotBefore a b = is_lt (member_order b a) ≡ false

pub not-before-itself : (a : Member) → NotBefore a a
not-before-itself a = by (is_lt (member_order a a)) refl
  where
    by : (b : Bool) → is_lt (member_order a a) ≡ b → is_lt (member_order a a) ≡ false
    by true e = member_weak.one_way a a e
    by false e = e

-- four answers, of which the first that isn't a tie decides
abbrev whole : Ordering → Ordering → Ordering → Ordering → Ordering
whole r c s p = ordering_then (ordering_then (ordering_then r c) s) p

-- two members of which neither is before the other are one
ties-are-one : (a b : Member) → NotBefore b a → NotBefore a b → a ≡ b
ties-are-one a b h k =
    by (int_cmp b.rank a.rank) (nat_cmp (order_of a.preemption) (order_of b.preemption)) (int_cmp b.regard a.regard) (nat_cmp a.place b.place) refl refl refl
    refl h (turned (member_order a b) (member_order b a) (member_total.antisymm b a) k)
  where
    turned : (r s : Ordering) → s ≡ ordering_reverse r → is_lt s ≡ false → r ≡ Greater → ⊥
    turned r s e f g = let same : s ≡ Less = e ∙ ap ordering_reverse g in let other : true ≡ false = sym (ap is_lt same) ∙ f in cc

    origins : (x y : Preemption) → order_of x ≡ order_of y → x ≡ y
    origins Preemption.No Preemption.No e = refl
    origins Preemption.No Preemption.ByRank e = absurd (omega (arith, e))
    origins Preemption.No Preemption.ByPriority e = absurd (omega (arith, e))
    origins Preemption.ByRank Preemption.No e = absurd (omega (arith, e))
    origins Preemption.ByRank Preemption.ByRank e = refl
    origins Preemption.ByRank Preemption.ByPriority e = absurd (omega (arith, e))
    origins Preemption.ByPriority Preemption.No e = absurd (omega (arith, e))
    origins Preemption.ByPriority Preemption.ByRank e = absurd (omega (arith, e))
    origins Preemption.ByPriority Preemption.ByPriority e = refl

    same_parts : b.rank ≡ a.rank → a.preemption ≡ b.preemption → b.regard ≡ a.regard → a.place ≡ b.place → a ≡ b
    same_parts ranks preemptions regards places =
        ap (λ (r : ℤ). let m : Member = record { rank = r; preemption = a.preemption; regard = a.regard; place = a.place } in m) (sym ranks)
        ∙ ap (λ (p : Preemption). let m : Member = record { rank = b.rank; preemption = p; regard = a.regard; place = a.place } in m) preemptions
        ∙ ap (λ (r : ℤ). let m : Member = record { rank = b.rank; preemption = b.preemption; regard = r; place = a.place } in m) (sym regards)
        ∙ ap (λ (p : ℕ). let m : Member = record { rank = b.rank; preemption = b.preemption; regard = b.regard; place = p } in m) places

    by : (r c s p : Ordering) → int_cmp b.rank a.rank ≡ r → nat_cmp (order_of a.preemption) (order_of b.preemption) ≡ c
        → int_cmp b.regard a.regard ≡ s → nat_cmp a.place b.place ≡ p
        → is_lt (whole r c s p) ≡ false → (whole r c s p ≡ Greater → ⊥) → a ≡ b
    by Less c s p e f g i low high = absurd (cc)
    by Greater c s p e f g i low high = absurd (high refl)
    by Equal Less s p e f g i low high = absurd (cc)
    by Equal Greater s p e f g i low high = absurd (high refl)
    by Equal Equal Less p e f g i low high = absurd (cc)
    by Equal Equal Greater p e f g i low high = absurd (high refl)
    by Equal Equal Equal Less e f g i low high = absurd (cc)
    by Equal Equal Equal Greater e f g i low high = absurd (high refl)
    by Equal Equal Equal Equal e f g i low high =
        same_parts (int_ranked b.rank a.rank Equal (sym e))
        (origins a.preemption b.preemption (ranked (order_of a.preemption) (order_of b.preemption) Equal (sym f)))
        (int_ranked b.regard a.regard Equal (sym g)) (ranked a.place b.place Equal (sym i))

-- ---- one more member

-- the first of some and one more is the earlier of the two
pub first-next : (ms : List Member) (first next : Option Member) → IsBest ms first → IsBest (ms ++ cons_option next []) (earlier first next)
first-next ms None None h = ap (λ (xs : List Member). xs ++ []) h
first-next ms None (Some m) h =
    let P : List Member → Type 0 = λ xs. IsFirst (xs ++ m ∷ []) m in
    subst P (sym h) (record { among = Contains-push [] m; none_before = All-cons (NotBefore m) m [] (not-before-itself m) (All-nil (NotBefore m)) })
first-next ms (Some a) None h = record {
  among = Contains-append_left ms [] a h.among;
  none_before = All-append (NotBefore a) ms [] h.none_before (All-nil (NotBefore a));
}
first-next ms (Some a) (Some m) h = by (is_lt (member_order m a)) refl
  where
    by : (b : Bool) → is_lt (member_order m a) ≡ b → IsBest (ms ++ m ∷ []) (if b then Some m else Some a)
    by true e = record {
      among = Contains-push ms m;
      none_before =
          All-push (NotBefore m) ms m (λ k d within. member_weak.chain _ a m (h.none_before k d within) (member_weak.one_way m a e)) (not-before-itself m);
    }
    by false e = record {
      among = Contains-append_left ms (m ∷ []) a h.among;
      none_before = All-push (NotBefore a) ms m h.none_before e;
    }

-- ---- the first, from the front

first-front : (m : Member) (ms : List Member) (first : Option Member) → IsBest ms first → IsBest (m ∷ ms) (earlier (Some m) first)
first-front m ms None h =
    let P : List Member → Type 0 = λ xs. IsFirst (m ∷ xs) m in
    subst P (sym h) (record { among = (0, omega arith, refl); none_before = All-cons (NotBefore m) m [] (not-before-itself m) (All-nil (NotBefore m)) })
first-front m ms (Some a) h = by (is_lt (member_order a m)) refl
  where
    later : is_lt (member_order a m) ≡ true → NotBefore a m
    later e = member_weak.one_way a m e

    over : NotBefore m a → (o : Member) → NotBefore a o → NotBefore m o
    over e o f = member_weak.chain o a m f e

    by : (b : Bool) → is_lt (member_order a m) ≡ b → IsBest (m ∷ ms) (if b then Some a else Some m)
    by true e = record {
      among = (suc h.among.0, (let within = h.among.1 in omega (arith, within)), h.among.2);
      none_before = All-cons (NotBefore a) m ms (later e) h.none_before;
    }
    by false e = record {
      among = (0, omega arith, refl);
      none_before = All-cons (NotBefore m) m ms (not-before-itself m) (λ k d within. over e _ (h.none_before k d within));
    }

pub first-is-best : (ms : List Member) → IsBest ms (first_of ms)
first-is-best [] = refl
first-is-best (m ∷ ms) = first-front m ms (first_of ms) (first-is-best ms)

-- ---- there is one first

-- all sums over them are the same
abbrev pub SameSums : List Member → List Member → Type 0
SameSums xs ys = (f : Member → ℕ) → sum_by f xs ≡ sum_by f ys

module _ (b : Member) where
  -- 1 for a member that is before this one
  abbrev before : Member → ℕ
  before o = cond (is_lt (member_order o b)) 1 0

  none-before : (ms : List Member) → All (NotBefore b) ms → sum_by before ms ≡ 0
  none-before [] h = refl
  none-before (o ∷ os) h =
      sum_by-cons before o os
      ∙ ap (λ (c : Bool). cond c 1 0 + sum_by before os) (h 0 o (omega arith))
      ∙ zero-add (sum_by before os)
      ∙ none-before os (All-tail (NotBefore b) o os h)

  all-after : (ms : List Member) → sum_by before ms ≡ 0 → All (NotBefore b) ms
  all-after [] e = All-nil (NotBefore b)
  all-after (o ∷ os) e =
      let parts : before o + sum_by before os ≡ 0 = sym (sum_by-cons before o os) ∙ e in
      by (is_lt (member_order o b)) refl parts (all-after os (omega (arith, parts)))
    where
      by : (c : Bool) → is_lt (member_order o b) ≡ c → before o + sum_by before os ≡ 0 → All (NotBefore b) os → All (NotBefore b) (o ∷ os)
      by true f parts rest = let one : before o ≡ 1 = ap (λ (c : Bool). cond c 1 0) f in absurd (omega (arith, parts, one))
      by false f parts rest = All-cons (NotBefore b) o os f rest

  all-moved : (xs ys : List Member) → SameSums xs ys → All (NotBefore b) ys → All (NotBefore b) xs
  all-moved xs ys same h = all-after xs (same before ∙ none-before ys h)

none-there : (ms : List Member) (b : Member) → sum_by (λ (m : Member). 1) ms ≡ 0 → Contains ms b → ⊥
none-there [] b e here = let within = here.1 in omega (arith, within)
none-there (m ∷ ms) b e here = let head = sum_by-cons (λ (m : Member). 1) m ms in omega (arith, head, e)

-- the first of the same members in another order is the same
pub one-first : (xs ys : List Member) (first other : Option Member) → SameSums xs ys → IsBest xs first → IsBest ys other → first ≡ other
one-first xs ys None None same h k = refl
one-first xs ys None (Some b) same h k = absurd (none-there ys b (sym (same (λ m. 1)) ∙ ap (sum_by (λ (m : Member). 1)) h) k.among)
one-first xs ys (Some a) None same h k = absurd (none-there xs a (same (λ m. 1) ∙ ap (sum_by (λ (m : Member). 1)) k) h.among)
one-first xs ys (Some a) (Some b) same h k =
    ap Some (ties-are-one a b
    (All-contains (NotBefore b) xs a (all-moved b xs ys same k.none_before) h.among)
    (All-contains (NotBefore a) ys b (all-moved a ys xs (λ f. sym (same f)) h.none_before) k.among))
