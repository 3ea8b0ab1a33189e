-- That the computed tuple is the first, and what is left to choose among where fewer places are free.
use Rattle.std.proofs.Common.{◌≡◌, ◌≤◌, ℕ, zero, suc, Bool, true, false, cond, if◌then◌else◌, refl, List, [], ◌∷◌, ◌++◌, length}
use Rattle.std.proofs.Common.{map, filter, get_or, sum_by, Option, None, Some, All, ap, sym, ◌∙◌, subst, arith, Less, Equal, Greater}
use Rattle.std.specs.List.{flat_map}
use Rattle.std.specs.Ordering.{is_lt, ordering_reverse, ordering_then}
use Rattle.std.specs.declared.cmp.Ordering.{Ordering}
use Rattle.std.proofs.lemmas.Cmp.{tied_itself}
use Rattle.std.proofs.lemmas.List.Elements.{All-cons, All-filter, All-map, All-nil}
use Rattle.std.proofs.lemmas.List.Sums.{sum_by-cons}
use Rattle.gang_ports.specs.Choice.{Choice, IsFirst, IsFirstOf, earlier, first_of, fits, next, over_prefixes, place_order, tuple_order, tuples}
use Rattle.gang_ports.proofs.CountLemmas.{by-next}
use Rattle.gang_ports.proofs.ListLemmas.{All-flat_map, flat_map-none}
use Rattle.gang_ports.proofs.OrderLemmas.{first-is, first-none, place_total, tied-places}

-- ---- the order of tuples

module _ (choice : Choice) where
  itself : (before xs : List ℕ) → tuple_order choice before xs xs ≡ Equal
  unfolding tuple_order
  itself before [] = refl
  itself before (a ∷ xs) =
      ap (λ (r : Ordering). ordering_then r (tuple_order choice (before ++ a ∷ []) xs xs)) (tied_itself (place_total choice before) a)
      ∙ itself (before ++ a ∷ []) xs

  turned : (before xs ys : List ℕ) → tuple_order choice before xs ys ≡ ordering_reverse (tuple_order choice before ys xs)
  unfolding tuple_order
  turned before [] [] = refl
  turned before [] (b ∷ ys) = refl
  turned before (a ∷ xs) [] = refl
  turned before (a ∷ xs) (b ∷ ys) =
      ap (λ (r : Ordering). ordering_then r (tuple_order choice (before ++ a ∷ []) xs ys)) ((place_total choice before).antisymm a b)
      ∙ by (turned (before ++ a ∷ []) xs ys) (place_order choice before b a) refl
    where
      by : tuple_order choice (before ++ a ∷ []) xs ys ≡ ordering_reverse (tuple_order choice (before ++ a ∷ []) ys xs) → (r : Ordering)
          → place_order choice before b a ≡ r
          → ordering_then (ordering_reverse r) (tuple_order choice (before ++ a ∷ []) xs ys)
          ≡ ordering_reverse (ordering_then r (tuple_order choice (before ++ b ∷ []) ys xs))
      by rest Less e = refl
      by rest Greater e = refl
      by rest Equal e = rest ∙ ap (λ (p : ℕ). ordering_reverse (tuple_order choice (before ++ p ∷ []) ys xs)) (sym (tied-places choice before b a e))

  -- what isn't before the second isn't before the first, where the second isn't before the first
  chain : (before xs ys zs : List ℕ) → is_lt (tuple_order choice before ys xs) ≡ false → is_lt (tuple_order choice before zs ys) ≡ false
      → is_lt (tuple_order choice before zs xs) ≡ false
  unfolding tuple_order
  chain before [] ys [] h k = refl
  chain before [] ys (c ∷ zs) h k = refl
  chain before (a ∷ xs) [] zs h k = absurd (cc)
  chain before (a ∷ xs) (b ∷ ys) [] h k = absurd (cc)
  chain before (a ∷ xs) (b ∷ ys) (c ∷ zs) h k =
      by (λ f g. chain (before ++ c ∷ []) xs ys zs f g) (place_order choice before b a) (place_order choice before c b) refl refl h k
    where
      greater : place_order choice before c a ≡ Greater
          → is_lt (ordering_then (place_order choice before c a) (tuple_order choice (before ++ c ∷ []) zs xs)) ≡ false
      greater e = ap (λ (r : Ordering). is_lt (ordering_then r (tuple_order choice (before ++ c ∷ []) zs xs))) e

      -- a is before b
      below : (p q : ℕ) → place_order choice before q p ≡ Greater → place_order choice before p q ≡ Less
      below p q e = (place_total choice before).antisymm p q ∙ ap ordering_reverse e

      by : (is_lt (tuple_order choice (before ++ c ∷ []) ys xs) ≡ false → is_lt (tuple_order choice (before ++ c ∷ []) zs ys) ≡ false
          → is_lt (tuple_order choice (before ++ c ∷ []) zs xs) ≡ false)
          → (r s : Ordering) → place_order choice before b a ≡ r → place_order choice before c b ≡ s
          → is_lt (ordering_then r (tuple_order choice (before ++ b ∷ []) ys xs)) ≡ false
          → is_lt (ordering_then s (tuple_order choice (before ++ c ∷ []) zs ys)) ≡ false
          → is_lt (ordering_then (place_order choice before c a) (tuple_order choice (before ++ c ∷ []) zs xs)) ≡ false
      by behind Less s e d f g = absurd (cc)
      by behind r Less e d f g = absurd (cc)
      by behind Equal Greater e d f g = greater (ap (place_order choice before c) (sym (tied-places choice before b a e)) ∙ d)
      by behind Greater Equal e d f g = greater (ap (λ (p : ℕ). place_order choice before p a) (tied-places choice before c b d) ∙ e)
      by behind Greater Greater e d f g =
          greater ((place_total choice before).antisymm c a ∙ ap ordering_reverse ((place_total choice before).trans a b c (below a b e) (below b c d)))
      by behind Equal Equal e d f g =
          let one : c ≡ b = tied-places choice before c b d in
          let tie : place_order choice before c a ≡ Equal = ap (λ (p : ℕ). place_order choice before p a) one ∙ e in
          let first : is_lt (tuple_order choice (before ++ c ∷ []) ys xs) ≡ false =
          subst (λ (p : ℕ). is_lt (tuple_order choice (before ++ p ∷ []) ys xs) ≡ false) (sym one) f in
          ap (λ (r : Ordering). is_lt (ordering_then r (tuple_order choice (before ++ c ∷ []) zs xs))) tie ∙ behind first g

  -- ---- the first of some tuples

  not-before : (r : Ordering) → is_lt r ≡ true → is_lt (ordering_reverse r) ≡ false
  not-before Less e = refl
  not-before Equal e = absurd (cc)
  not-before Greater e = absurd (cc)

  pub first-are : (ts : List (List ℕ)) → IsFirstOf choice ts (first_of choice ts)
  unfolding first_of
  first-are [] = refl
  first-are (x ∷ ts) = by (first_of choice ts) (first-are ts)
    where
      only : ts ≡ [] → IsFirst choice [] (x ∷ ts) x
      only e = record {
        among = (zero, omega arith, refl);
        none_before =
            All-cons (λ o. is_lt (tuple_order choice [] o x) ≡ false) x ts (ap is_lt (itself [] x))
            (subst (λ us. All (λ o. is_lt (tuple_order choice [] o x) ≡ false) us) (sym e) (All-nil (λ o. is_lt (tuple_order choice [] o x) ≡ false)));
      }

      tested : (b : List ℕ) → IsFirst choice [] ts b → (c : Bool) → is_lt (tuple_order choice [] b x) ≡ c
          → IsFirst choice [] (x ∷ ts) (if c then b else x)
      tested b first true e = record {
        among = (suc first.among.0, omega (arith, first.among.1), first.among.2);
        none_before =
            All-cons (λ o. is_lt (tuple_order choice [] o b) ≡ false) x ts (ap is_lt (turned [] x b) ∙ not-before (tuple_order choice [] b x) e)
            first.none_before;
      }
      tested b first false e = record {
        among = (zero, omega arith, refl);
        none_before =
            All-cons (λ o. is_lt (tuple_order choice [] o x) ≡ false) x ts (ap is_lt (itself [] x))
            (λ k d within. chain [] x b _ e (first.none_before k d within));
      }

      by : (o : Option (List ℕ)) → IsFirstOf choice ts o → IsFirstOf choice (x ∷ ts) (Some (earlier choice x o))
      by None none = only none
      by (Some b) first = tested b first (is_lt (tuple_order choice [] b x)) refl

  pub first-alone : (ts : List (List ℕ)) (o : Option (List ℕ)) → IsFirstOf choice ts o → o ≡ first_of choice ts
  first-alone ts None none = sym (first-none choice ts none)
  first-alone ts (Some t) first = sym (first-is choice ts t first)

  -- what holds of each free place holds of each place of a tuple
  pub all-tuples : (P : ℕ → Type 0) → All P choice.free → (n : ℕ) (before : List ℕ) → All (λ t. All P t) (tuples choice n before)
  unfolding tuples next
  all-tuples P free zero before = All-cons (λ t. All P t) [] [] (All-nil P) (All-nil (λ t. All P t))
  all-tuples P free (suc n) before =
      All-flat_map (λ t. All P t) (λ p. map (λ t. p ∷ t) (tuples choice n (before ++ p ∷ []))) (next choice before)
      (λ k d within.
      let p = get_or (next choice before) k d in
      let one : P p = All-filter (fits choice before) P choice.free free k d within in
      All-map (λ t. All P t) (λ t. p ∷ t) (tuples choice n (before ++ p ∷ []))
      (λ j e w. All-cons P p (get_or (tuples choice n (before ++ p ∷ [])) j e) one (all-tuples P free n (before ++ p ∷ []) j e w)))

-- ---- fewer free places

module _ {X : Type 0} (q : X → Bool) where
  pub filter-turned : (p : X → Bool) (xs : List X) → filter p (filter q xs) ≡ filter q (filter p xs)
  filter-turned p [] = refl
  filter-turned p (x ∷ xs) = by (p x) (q x) refl refl (filter-turned p xs)
    where
      by : (b c : Bool) → p x ≡ b → q x ≡ c → filter p (filter q xs) ≡ filter q (filter p xs)
          → filter p (cond c (x ∷ filter q xs) (filter q xs)) ≡ filter q (cond b (x ∷ filter p xs) (filter p xs))
      by true true e d rest =
          ap (λ z. cond z (x ∷ filter p (filter q xs)) (filter p (filter q xs))) e ∙ ap (λ (ys : List X). x ∷ ys) rest
          ∙ sym (ap (λ z. cond z (x ∷ filter q (filter p xs)) (filter q (filter p xs))) d)
      by true false e d rest = rest ∙ sym (ap (λ z. cond z (x ∷ filter q (filter p xs)) (filter q (filter p xs))) d)
      by false true e d rest = ap (λ z. cond z (x ∷ filter p (filter q xs)) (filter p (filter q xs))) e ∙ rest
      by false false e d rest = rest

  pub sum-fewer : (f g : X → ℕ) → ((x : X) → f x ≤ g x) → (xs : List X) → sum_by f (filter q xs) ≤ sum_by g xs
  sum-fewer f g below [] = omega arith
  sum-fewer f g below (x ∷ xs) = by (q x) (sum-fewer f g below xs)
    where
      by : (b : Bool) → sum_by f (filter q xs) ≤ sum_by g xs → sum_by f (cond b (x ∷ filter q xs) (filter q xs)) ≤ sum_by g (x ∷ xs)
      by true rest = omega (arith, rest, below x, sum_by-cons f x (filter q xs), sum_by-cons g x xs)
      by false rest = omega (arith, rest, sum_by-cons g x xs)

  pub length-fewer : (xs : List X) → length (filter q xs) ≤ length xs
  length-fewer [] = omega arith
  length-fewer (x ∷ xs) = by (q x) (length-fewer xs)
    where
      by : (b : Bool) → length (filter q xs) ≤ length xs → length (cond b (x ∷ filter q xs) (filter q xs)) ≤ length (x ∷ xs)
      by true rest = omega (arith, rest)
      by false rest = omega (arith, rest)

-- lists of which none has an item
all-none : {X Y : Type 0} (f : X → List Y) (xs : List X) → flat_map f xs ≡ [] → All (λ x. f x ≡ []) xs
all-none f [] e = All-nil (λ x. f x ≡ [])
all-none {X} {Y} f (x ∷ xs) e = All-cons (λ x. f x ≡ []) x xs (first (f x) (flat_map f xs) e) (all-none f xs (second (f x) (flat_map f xs) e))
  where
    first : (us vs : List Y) → us ++ vs ≡ [] → us ≡ []
    first [] vs e = refl
    first (y ∷ ys) vs e = absurd (cc)

    second : (us vs : List Y) → us ++ vs ≡ [] → vs ≡ []
    second [] vs e = e
    second (y ∷ ys) vs e = absurd (cc)

unmapped : {X Y : Type 0} (f : X → Y) (xs : List X) → map f xs ≡ [] → xs ≡ []
unmapped f [] e = refl
unmapped f (x ∷ xs) e = absurd (cc)

-- the choice among the places that pass a test too
abbrev pub fewer : (ℕ → Bool) → Choice → Choice
fewer q choice = record { free = filter q choice.free; dock = choice.dock; rank = choice.rank }

module _ (q : ℕ → Bool) (choice : Choice) where
  next-fewer : (before : List ℕ) → next (fewer q choice) before ≡ filter q (next choice before)
  unfolding next fits
  next-fewer before = filter-turned q (fits choice before) choice.free

  pub none-fewer : (n : ℕ) (before : List ℕ) → tuples choice n before ≡ [] → tuples (fewer q choice) n before ≡ []
  unfolding tuples
  none-fewer zero before e = absurd (cc)
  none-fewer (suc n) before e =
      ap (flat_map (λ p. map (λ t. p ∷ t) (tuples (fewer q choice) n (before ++ p ∷ [])))) (next-fewer before)
      ∙ flat_map-none (λ p. map (λ t. p ∷ t) (tuples (fewer q choice) n (before ++ p ∷ []))) (filter q (next choice before))
      (All-filter q (λ p. map (λ t. p ∷ t) (tuples (fewer q choice) n (before ++ p ∷ [])) ≡ []) (next choice before)
      (λ k d within.
      let p = get_or (next choice before) k d in
      let none : map (λ t. p ∷ t) (tuples choice n (before ++ p ∷ [])) ≡ [] =
      all-none (λ p. map (λ t. p ∷ t) (tuples choice n (before ++ p ∷ []))) (next choice before) e k d within in
      ap (map (λ t. p ∷ t)) (none-fewer n (before ++ p ∷ []) (unmapped (λ t. p ∷ t) (tuples choice n (before ++ p ∷ [])) none))))

  pub over-fewer : (few many : List ℕ → ℕ) → ((before : List ℕ) → few before ≤ many before) → (n : ℕ) (before : List ℕ)
      → over_prefixes (fewer q choice) few n before ≤ over_prefixes choice many n before
  unfolding over_prefixes
  over-fewer few many below zero before = omega arith
  over-fewer few many below (suc n) before =
      let next_sum : sum_by (λ p. over_prefixes (fewer q choice) few n (before ++ p ∷ [])) (next (fewer q choice) before)
      ≤ sum_by (λ p. over_prefixes choice many n (before ++ p ∷ [])) (next choice before) =
      subst (λ ps. sum_by (λ p. over_prefixes (fewer q choice) few n (before ++ p ∷ [])) ps
      ≤ sum_by (λ p. over_prefixes choice many n (before ++ p ∷ [])) (next choice before)) (sym (next-fewer before))
      (sum-fewer q (λ p. over_prefixes (fewer q choice) few n (before ++ p ∷ [])) (λ p. over_prefixes choice many n (before ++ p ∷ []))
      (λ p. over-fewer few many below n (before ++ p ∷ [])) (next choice before)) in
      omega (arith, next_sum, below before, by-next (fewer q choice) few n before, by-next choice many n before)
