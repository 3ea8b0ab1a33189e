-- The first of some tuples, and how it is found behind a prefix: by the places that may be next, in order.
use Rattle.std.proofs.Common.{◌≡◌, ◌<◌, ℕ, zero, suc, Bool, true, false, if◌then◌else◌, refl, List, [], ◌∷◌, ◌++◌, length, map}
use Rattle.std.proofs.Common.{get_or, Option, None, Some, All, Contains, ap, sym, ◌∙◌, subst, arith, Less, Equal, Greater}
use Rattle.std.specs.List.Sorted.{IsPermutation, IsSorted}
use Rattle.std.specs.Cmp.{IsTotalOrder, IsStrictWeakOrder}
use Rattle.std.specs.Ordering.{int_cmp, is_lt, nat_cmp, ordering_reverse, ordering_then}
use Rattle.std.specs.declared.cmp.Ordering.{Ordering}
use Rattle.std.proofs.lemmas.Cmp.{back_total, int_cmp_total, nat_cmp_total, on_total, ranked, then_total, tied_itself}
use Rattle.std.proofs.lemmas.List.Elements.{All-from_get_or, All-head, All-map, All-nil, All-same, All-tail, Contains-get_or}
use Rattle.std.proofs.lemmas.List.Sorted.{All-permutation, Contains-permutation, IsPermutation-sym, ranks_by, sorted_far}
use Rattle.gang_ports.specs.Choice.{Choice, IsFirst, earlier, first_of, next, place_order, tuple_order, tuples}
use Rattle.gang_ports.proofs.ListLemmas.{All-flat_map, Contains-flat_map, Contains-map, flat_map-none}

-- ---- the order of places

module _ (choice : Choice) (before : List ℕ) where
  pub place_total : IsTotalOrder (place_order choice before)
  place_total = then_total (back_total (on_total (λ (p : ℕ). choice.rank before p) int_cmp_total)) (on_total (λ (p : ℕ). p) nat_cmp_total)

  pub place_weak : IsStrictWeakOrder (λ a b. is_lt (place_order choice before a b))
  place_weak = ranks_by place_total (λ (p : ℕ). p)

  -- two places that tie are one
  pub tied-places : (a b : ℕ) → place_order choice before a b ≡ Equal → a ≡ b
  tied-places a b tie = by (int_cmp (choice.rank before b) (choice.rank before a)) (nat_cmp a b) refl tie
    where
      by : (r s : Ordering) → nat_cmp a b ≡ s → ordering_then r s ≡ Equal → a ≡ b
      by Less s places e = absurd (cc)
      by Greater s places e = absurd (cc)
      by Equal Less places e = absurd (cc)
      by Equal Greater places e = absurd (cc)
      by Equal Equal places e = ranked a b Equal (sym places)

-- ---- the order of tuples

module _ (choice : Choice) where
  -- two tuples of which neither is before the other are one
  pub tied-tuples : (before xs ys : List ℕ) → is_lt (tuple_order choice before xs ys) ≡ false → is_lt (tuple_order choice before ys xs) ≡ false
      → xs ≡ ys
  unfolding tuple_order
  tied-tuples before [] [] h k = refl
  tied-tuples before [] (b ∷ ys) h k = absurd (cc)
  tied-tuples before (a ∷ xs) [] h k = absurd (cc)
  tied-tuples before (a ∷ xs) (b ∷ ys) h k =
      by (λ f g. tied-tuples (before ++ a ∷ []) xs ys f g) (place_order choice before a b) (place_order choice before b a) refl
      ((place_total choice before).antisymm b a) h k
    where
      by : (is_lt (tuple_order choice (before ++ a ∷ []) xs ys) ≡ false → is_lt (tuple_order choice (before ++ a ∷ []) ys xs) ≡ false → xs ≡ ys)
          → (r s : Ordering) → place_order choice before a b ≡ r → s ≡ ordering_reverse (place_order choice before a b)
          → is_lt (ordering_then r (tuple_order choice (before ++ a ∷ []) xs ys)) ≡ false
          → is_lt (ordering_then s (tuple_order choice (before ++ b ∷ []) ys xs)) ≡ false → a ∷ xs ≡ b ∷ ys
      by behind Less s places turned f g = absurd (cc)
      by behind Equal s places turned f g =
          let same : s ≡ Equal = turned ∙ ap ordering_reverse places in
          let one : a ≡ b = tied-places choice before a b places in
          let tail : is_lt (tuple_order choice (before ++ b ∷ []) ys xs) ≡ false =
          subst (λ (o : Ordering). is_lt (ordering_then o (tuple_order choice (before ++ b ∷ []) ys xs)) ≡ false) same g in
          let rest : xs ≡ ys = behind f (subst (λ (p : ℕ). is_lt (tuple_order choice (before ++ p ∷ []) ys xs) ≡ false) (sym one) tail) in
          cc
      by behind Greater s places turned f g =
          let same : s ≡ Less = turned ∙ ap ordering_reverse places in
          let wrong : true ≡ false = subst (λ (o : Ordering). is_lt (ordering_then o (tuple_order choice (before ++ b ∷ []) ys xs)) ≡ false) same g in
          absurd (cc)

  -- ---- the first of some tuples

  at-head : (x t : List ℕ) (ts : List (List ℕ)) → x ≡ t → Contains (x ∷ ts) t
  at-head x t ts is = (zero, omega arith, is)

  behind-head : (x t : List ℕ) (ts : List (List ℕ)) → Contains ts t → Contains (x ∷ ts) t
  behind-head x t ts k = (suc k.0, omega (arith, k.1), k.2)

  first-among : (ts : List (List ℕ)) (t : List ℕ) → first_of choice ts ≡ Some t → Contains ts t
  unfolding first_of
  first-among [] t e = absurd (cc)
  first-among (x ∷ ts) t e = by (λ b is. first-among ts b is) (first_of choice ts) refl e
    where
      by_test : (b : List ℕ) → Contains ts b → (c : Bool) → Some (if c then b else x) ≡ Some t → Contains (x ∷ ts) t
      by_test b there true is = let one : b ≡ t = cc in behind-head x t ts (subst (Contains ts) one there)
      by_test b there false is = at-head x t ts (cc)

      by : ((b : List ℕ) → first_of choice ts ≡ Some b → Contains ts b) → (o : Option (List ℕ)) → first_of choice ts ≡ o
          → Some (earlier choice x o) ≡ Some t → Contains (x ∷ ts) t
      by behind None rest is = at-head x t ts (cc)
      by behind (Some b) rest is = by_test b (behind b rest) (is_lt (tuple_order choice [] b x)) is

  -- a tuple isn't before another
  abbrev NotFirst : List ℕ → List ℕ → Type 0
  NotFirst t o = is_lt (tuple_order choice [] o t) ≡ false

  -- a tuple of the list before which no other comes is the one that is computed
  pub first-is : (ts : List (List ℕ)) (t : List ℕ) → IsFirst choice [] ts t → first_of choice ts ≡ Some t
  unfolding first_of
  first-is [] t h = absurd (omega (arith, h.among.1))
  first-is (x ∷ ts) t h = by (λ k. first-is ts t k) h.among
    where
      rest : All (NotFirst t) ts
      rest = All-tail (NotFirst t) x ts h.none_before

      -- where the head is the tuple
      head-first : x ≡ t → (o : Option (List ℕ)) → first_of choice ts ≡ o → Some (earlier choice x o) ≡ Some t
      head-first is None e = ap Some is
      head-first is (Some b) e =
          let there = first-among ts b e in
          let after : NotFirst t b = subst (NotFirst t) there.2 (rest there.0 b there.1) in
          ap (λ (c : Bool). Some (if c then b else x)) (subst (λ (z : List ℕ). is_lt (tuple_order choice [] b z) ≡ false) (sym is) after) ∙ ap Some is

      -- where it is behind the head
      rest-first : (c : Bool) → is_lt (tuple_order choice [] t x) ≡ c → Some (if c then t else x) ≡ Some t
      rest-first true e = refl
      rest-first false e = ap Some (tied-tuples [] x t (All-head (NotFirst t) x ts h.none_before) e)

      by : (IsFirst choice [] ts t → first_of choice ts ≡ Some t) → Contains (x ∷ ts) t → Some (earlier choice x (first_of choice ts)) ≡ Some t
      by behind (zero, within, is) = head-first is (first_of choice ts) refl
      by behind (suc i, within, is) =
          let found : first_of choice ts ≡ Some t = behind (record { among = (i, omega (arith, within), is); none_before = rest }) in
          ap (λ (o : Option (List ℕ)). Some (earlier choice x o)) found ∙ rest-first (is_lt (tuple_order choice [] t x)) refl

  pub first-none : (ts : List (List ℕ)) → ts ≡ [] → first_of choice ts ≡ None
  unfolding first_of
  first-none ts e = ap (first_of choice) e

  -- ---- behind a prefix

  module _ (n : ℕ) (before cs : List ℕ) (all : IsPermutation (next choice before) cs) where
    abbrev below : ℕ → List (List ℕ)
    below p = map (λ tuple. p ∷ tuple) (tuples choice n (before ++ p ∷ []))

    -- where no place leads to a tuple there is none
    pub none-behind : All (λ p. tuples choice n (before ++ p ∷ []) ≡ []) cs → tuples choice (suc n) before ≡ []
    unfolding tuples
    none-behind h =
        flat_map-none below (next choice before)
        (All-permutation (λ p. below p ≡ []) cs (next choice before) (IsPermutation-sym (next choice before) cs all)
        (λ k d within. ap (map (λ tuple. get_or cs k d ∷ tuple)) (h k d within)))

    module _ (ordered : IsSorted (place_order choice before) cs) (i d : ℕ) (within : i < length cs) (t : List ℕ) where
      abbrev c : ℕ
      c = get_or cs i d

      abbrev NotBefore : List ℕ → Type 0
      NotBefore o = is_lt (tuple_order choice before o (c ∷ t)) ≡ false

      -- tuples with the same first place
      same-place : All (λ o. is_lt (tuple_order choice (before ++ c ∷ []) o t) ≡ false) (tuples choice n (before ++ c ∷ [])) → All NotBefore (below c)
      unfolding tuple_order
      same-place none =
          All-map NotBefore (λ tuple. c ∷ tuple) (tuples choice n (before ++ c ∷ []))
          (λ k e w. ap (λ (r : Ordering). is_lt (ordering_then r
          (tuple_order choice (before ++ c ∷ []) (get_or (tuples choice n (before ++ c ∷ [])) k e) t))) (tied_itself (place_total choice before) c)
          ∙ none k e w)

      -- tuples with a first place that isn't before it
      later-place : All NotBefore (below c) → (p : ℕ) → is_lt (place_order choice before p c) ≡ false → All NotBefore (below p)
      unfolding tuple_order
      later-place same p after = by (place_order choice before p c) refl after
        where
          by : (r : Ordering) → place_order choice before p c ≡ r → is_lt r ≡ false → All NotBefore (below p)
          by Less is e = absurd (cc)
          by Equal is e = subst (λ (q : ℕ). All NotBefore (below q)) (sym (tied-places choice before p c is)) same
          by Greater is e =
              All-map NotBefore (λ tuple. p ∷ tuple) (tuples choice n (before ++ p ∷ []))
              (λ k e w. ap (λ (r : Ordering). is_lt (ordering_then r
              (tuple_order choice (before ++ p ∷ []) (get_or (tuples choice n (before ++ p ∷ [])) k e) t))) is)

      each-place : ((j : ℕ) → j < i → tuples choice n (before ++ get_or cs j d ∷ []) ≡ []) → All NotBefore (below c) → (j : ℕ) → j < length cs
          → All NotBefore (below (get_or cs j d))
      each-place passed same j inside = by (nat_cmp j i) refl
        where
          by : (r : Ordering) → nat_cmp j i ≡ r → All NotBefore (below (get_or cs j d))
          by Less e =
              All-same NotBefore (below (get_or cs j d)) [] (ap (map (λ tuple. get_or cs j d ∷ tuple)) (passed j (ranked j i Less (sym e))))
              (All-nil NotBefore)
          by Equal e = subst (λ (k : ℕ). All NotBefore (below (get_or cs k d))) (sym (ranked j i Equal (sym e))) same
          by Greater e =
              let lower : i < j = ranked j i Greater (sym e) in
              later-place same (get_or cs j d) (sorted_far (λ a b. is_lt (place_order choice before a b)) (place_weak choice before) cs ordered i j d
              (omega (arith, lower)) inside)

      -- the first tuple behind the first place that leads to one is the first of all
      pub first-behind : ((j : ℕ) → j < i → tuples choice n (before ++ get_or cs j d ∷ []) ≡ [])
          → IsFirst choice (before ++ c ∷ []) (tuples choice n (before ++ c ∷ [])) t → IsFirst choice before (tuples choice (suc n) before) (c ∷ t)
      unfolding tuples
      first-behind passed first =
          let turned : IsPermutation cs (next choice before) = IsPermutation-sym (next choice before) cs all in
          record {
            among =
                Contains-flat_map below (next choice before) c (c ∷ t) (Contains-permutation cs (next choice before) c turned (Contains-get_or cs i d within))
                (Contains-map (λ tuple. c ∷ tuple) (tuples choice n (before ++ c ∷ [])) t first.among);
            none_before = All-flat_map NotBefore below (next choice before)
                (All-permutation (λ p. All NotBefore (below p)) cs (next choice before) turned
                (All-from_get_or (λ p. All NotBefore (below p)) cs d (each-place passed (same-place first.none_before))));
          }
