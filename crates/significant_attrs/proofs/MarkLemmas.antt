-- The marks of the attributes that are reached, name by name.
use Rattle.std.proofs.Common.{◌≡◌, ◌≤◌, ◌<◌, ℕ, zero, suc, ◌+◌, ◌-◌, Bool, true, false, cond, true≢false, List, [], ◌∷◌}
use Rattle.std.proofs.Common.{◌++◌, length, get_or, map, take, replicate, Option, None, Some, slice_get, slice_set, Contains, refl, sym, ◌∙◌, ap}
use Rattle.std.proofs.Common.{subst, arith, ◌⊎◌, inl, inr, length-append, append-nil, ◌≢◌}
use Rattle.std.specs.Prelude.{slice_index_or}
use Rattle.std.specs.Option.{option_map_or}
use Rattle.std.proofs.lemmas.List.{length-map, length-set, length-replicate, get_or-set_same, get_or-set_other, take_all}
use Rattle.std.proofs.lemmas.List.Elements.{Contains-append_cases, Contains-append_left, Contains-append_right}
use Rattle.std.proofs.lemmas.List.Quantifiers.{position-Some}
use Rattle.pool_text.specs.Folding.{folded}
use Rattle.ad_tree.specs.Frames.{Frame, IsAd, attributes_at, names_in, names_of}
use Rattle.ad_tree.specs.Names.{has_name, same_name}
use Rattle.ad_tree.specs.Tree.{Tree}
use Rattle.ad_tree.proofs.NameLemmas.{same_folded_form}
use Rattle.significant_attrs.specs.Marking.{first_attributes, marks_after, names_after, needs_at, needs_of, pending, place_of, reached_marks}
use Rattle.significant_attrs.specs.Reach.{IsReached, is_first, is_needed, reached_from}
use Rattle.significant_attrs.proofs.ContainLemmas.{contains_at, contains_cases, contains_first, contains_later, contains_none, listed-has_name, has_name-listed}
use Rattle.significant_attrs.proofs.ContainLemmas.{named-one, same_name-folded}
use Rattle.significant_attrs.proofs.ReachLemmas.{list_is_least, listed-along}

-- ---- attributes of the root by their places

get-there : {A : Type 0} (xs : List A) (k : ℕ) → k < length xs → (x : A) × (slice_get xs k ≡ Some x)
get-there [] k low = absurd (omega (arith, low))
get-there (x ∷ xs) zero low = (x, refl)
get-there (x ∷ xs) (suc k) low = get-there xs k (omega (arith, low))

get-within : {A : Type 0} (xs : List A) (k : ℕ) (x : A) → slice_get xs k ≡ Some x → k < length xs
get-within [] k x e = absurd (cc)
get-within (y ∷ xs) zero x e = omega arith
get-within (y ∷ xs) (suc k) x e = omega (arith, get-within xs k x e)

get-contained : {A : Type 0} (xs : List A) (x : A) → Contains xs x → (k : ℕ) × (slice_get xs k ≡ Some x)
get-contained [] x c = absurd (contains_none x c)
get-contained (y ∷ xs) x c = by (get-contained xs x) (contains_cases y xs x c)
  where
    by : (Contains xs x → (k : ℕ) × (slice_get xs k ≡ Some x)) → (y ≡ x) ⊎ Contains xs x → (k : ℕ) × (slice_get (y ∷ xs) k ≡ Some x)
    by rest (inl same) = (zero, ap Option.Some same)
    by rest (inr later) = let found = rest later in (suc found.0, found.1)

name-there : (attributes : List (List ℕ × Tree)) (k : ℕ) (a : List ℕ × Tree) → slice_get attributes k ≡ Some a
    → get_or (names_of attributes) k [] ≡ a.0
name-there [] k a e = absurd (cc)
name-there (b ∷ rest) zero a e = let same : b ≡ a = cc in ap (λ (c : List ℕ × Tree). c.0) same
name-there (b ∷ rest) (suc k) a e = name-there rest k a e

-- ---- lists

take-more : (xs ys : List (List ℕ)) (i : ℕ) (y z : List ℕ) → slice_get xs i ≡ Some y → Contains (take (suc i) (xs ++ ys)) z
    → Contains (take i xs) z ⊎ (y ≡ z)
take-more [] ys i y z e c = absurd (cc)
take-more (x ∷ xs) ys zero y z e c =
    let same : x ≡ y = cc (e) in elim (contains_cases x [] z c) [ inl here ↦ inr (sym same ∙ here) | inr none ↦ absurd (contains_none z none) ]
take-more (x ∷ xs) ys (suc i) y z e c = by (take-more xs ys i y z e) (contains_cases x (take (suc i) (xs ++ ys)) z c)
  where
    by : (Contains (take (suc i) (xs ++ ys)) z → Contains (take i xs) z ⊎ (y ≡ z)) → (x ≡ z) ⊎ Contains (take (suc i) (xs ++ ys)) z
        → Contains (x ∷ take i xs) z ⊎ (y ≡ z)
    by rest (inl same) = inl (subst (Contains (x ∷ take i xs)) same (contains_first x (take i xs)))
    by rest (inr later) = elim (rest later) [ inl old ↦ inl (contains_later x (take i xs) z old) | inr new ↦ inr new ]

take-one : (xs : List (List ℕ)) (i : ℕ) (y z : List ℕ) → slice_get xs i ≡ Some y → Contains (take (suc i) xs) z
    → Contains (take i xs) z ⊎ (y ≡ z)
take-one [] i y z e c = absurd (cc)
take-one (x ∷ xs) zero y z e c =
    let same : x ≡ y = cc (e) in elim (contains_cases x [] z c) [ inl here ↦ inr (sym same ∙ here) | inr none ↦ absurd (contains_none z none) ]
take-one (x ∷ xs) (suc i) y z e c = by (take-one xs i y z e) (contains_cases x (take (suc i) xs) z c)
  where
    by : (Contains (take (suc i) xs) z → Contains (take i xs) z ⊎ (y ≡ z)) → (x ≡ z) ⊎ Contains (take (suc i) xs) z
        → Contains (x ∷ take i xs) z ⊎ (y ≡ z)
    by rest (inl same) = inl (subst (Contains (x ∷ take i xs)) same (contains_first x (take i xs)))
    by rest (inr later) = elim (rest later) [ inl old ↦ inl (contains_later x (take i xs) z old) | inr new ↦ inr new ]

get_or_past : (marks : List Bool) (k : ℕ) (d : Bool) → length marks ≤ k → get_or marks k d ≡ d
get_or_past [] k d past = refl
get_or_past (m ∷ marks) zero d past = absurd (omega (arith, past))
get_or_past (m ∷ marks) (suc k) d past = get_or_past marks k d (omega (arith, past))

no-marks : (n k : ℕ) → get_or (replicate n false) k false ≡ false
no-marks zero k = refl
no-marks (suc n) zero = refl
no-marks (suc n) (suc k) = no-marks n k

other-default : (marks : List Bool) (k : ℕ) → k < length marks → slice_index_or marks k true ≡ get_or marks k false
other-default [] k low = absurd (omega (arith, low))
other-default (m ∷ marks) zero low = refl
other-default (m ∷ marks) (suc k) low = other-default marks k (omega (arith, low))

pub set-already : (marks : List Bool) (k : ℕ) → slice_index_or marks k true ≡ true → slice_set marks k true ≡ marks
set-already [] k e = refl
set-already (m ∷ marks) zero e = ap (λ x. x ∷ marks) (sym e)
set-already (m ∷ marks) (suc k) e = ap (λ l. m ∷ l) (set-already marks k e)

by_places : (marks : List Bool) (test : List ℕ × Tree → Bool) (attributes : List (List ℕ × Tree)) → length marks ≡ length attributes
    → ((k : ℕ) (a : List ℕ × Tree) → slice_get attributes k ≡ Some a → get_or marks k false ≡ test a) → marks ≡ map test attributes
by_places [] test [] many each = refl
by_places [] test (a ∷ rest) many each = absurd (omega (arith, many))
by_places (m ∷ marks) test [] many each = absurd (omega (arith, many))
by_places (m ∷ marks) test (a ∷ rest) many each =
    ap (λ x. x ∷ marks) (each zero a refl) ∙ ap (λ l. test a ∷ l) (by_places marks test rest (omega (arith, many)) (λ k b e. each (suc k) b e))

-- ---- the invariant

-- after the turns of i names: what waits and what is marked is reached, the first names wait, each name that had its turn marked
-- its attribute, and what a marked attribute needs waits
pub record IsMarking (first : List (List ℕ)) (request : List Frame) (names : List (List ℕ)) (i : ℕ) (marks : List Bool) : Type 0 where
  pub many : length marks ≡ length (attributes_at request 0)
  pub upto : i ≤ length names
  pub reached : (y : List ℕ) → Contains names y → IsReached first request (folded y)
  pub marked : (k : ℕ) (a : List ℕ × Tree) → slice_get (attributes_at request 0) k ≡ Some a → get_or marks k false ≡ true
      → IsReached first request (folded a.0)
  pub firsts : (a : List ℕ × Tree) → Contains (attributes_at request 0) a → has_name a.0 first ≡ true → Contains names a.0
  pub seen : (y : List ℕ) (k : ℕ) → Contains (take i names) y → place_of request y ≡ Some k → get_or marks k false ≡ true
  pub needs : (k : ℕ) (y : List ℕ) → get_or marks k false ≡ true → Contains (needs_at request k) y → Contains names y

module _ (first : List (List ℕ)) (request : List Frame) where
  first-contains : (attributes : List (List ℕ × Tree)) (a : List ℕ × Tree) → Contains attributes a → has_name a.0 first ≡ true
      → Contains (first_attributes first attributes) a.0
  first-contains [] a c h = absurd (contains_none a c)
  first-contains (b ∷ rest) a c h = by (first-contains rest a) (has_name b.0 first) refl (contains_cases b rest a c)
    where
      by : (Contains rest a → has_name a.0 first ≡ true → Contains (first_attributes first rest) a.0) → (x : Bool) → has_name b.0 first ≡ x
          → (b ≡ a) ⊎ Contains rest a
          → Contains (cond x (b.0 ∷ first_attributes first rest) (first_attributes first rest)) a.0
      by later true is (inl same) =
          subst (λ (d : List ℕ × Tree). Contains (b.0 ∷ first_attributes first rest) d.0) same (contains_first b.0 (first_attributes first rest))
      by later true is (inr old) = contains_later b.0 (first_attributes first rest) a.0 (later old h)
      by later false is (inl same) = absurd (true≢false (sym h ∙ sym (ap (λ (d : List ℕ × Tree). has_name d.0 first) same) ∙ is))
      by later false is (inr old) = later old h

  first-listed : (attributes : List (List ℕ × Tree)) (y : List ℕ) → Contains (first_attributes first attributes) y → has_name y first ≡ true
  first-listed [] y c = absurd (contains_none y c)
  first-listed (b ∷ rest) y c = by (first-listed rest y) (has_name b.0 first) refl c
    where
      by : (Contains (first_attributes first rest) y → has_name y first ≡ true) → (x : Bool) → has_name b.0 first ≡ x
          → Contains (cond x (b.0 ∷ first_attributes first rest) (first_attributes first rest)) y → has_name y first ≡ true
      by later true is k =
          elim (contains_cases b.0 (first_attributes first rest) y k) [ inl same ↦ subst (λ n. has_name n first ≡ true) same is | inr old ↦ later old ]
      by later false is k = later k

  pub marking-begins : (marks : List Bool) → marks ≡ replicate (length (attributes_at request 0)) false
      → IsMarking first request (first_attributes first (attributes_at request 0)) 0 marks
  marking-begins marks is = record {
    many = ap (λ m. length m) is ∙ length-replicate (length (attributes_at request 0)) false;
    upto = omega arith;
    reached =
        λ y c. let found =
        has_name-listed y first (first-listed (attributes_at request 0) y c) in subst (IsReached first request) found.2 (is_first found.0 found.1);
    marked = λ k a e h. absurd (true≢false (sym h ∙ none k));
    firsts = λ a c h. first-contains (attributes_at request 0) a c h;
    seen = λ y k c e. absurd (contains_none y c);
    needs = λ k y h c. absurd (true≢false (sym h ∙ none k));
  }
    where
      none : (k : ℕ) → get_or marks k false ≡ false
      none k = ap (λ m. get_or m k false) is ∙ no-marks (length (attributes_at request 0)) k

  -- ---- a turn

  module _ (names : List (List ℕ)) (i : ℕ) (marks : List Bool) (m : IsMarking first request names i marks) (y : List ℕ)
      (at : slice_get names i ≡ Some y) where
    idle : place_of request y ≡ None → IsMarking first request names (i + 1) marks
    idle none =
        let low = get-within names i y at in
        record { many = m.many; upto = omega (arith, low); reached = m.reached; marked = m.marked; firsts = m.firsts; seen = seen; needs = m.needs }
      where
        seen_by : (z : List ℕ) (k : ℕ) → Contains (take i names) z ⊎ (y ≡ z) → place_of request z ≡ Some k → get_or marks k false ≡ true
        seen_by z k (inl old) e = m.seen z k old e
        seen_by z k (inr same) e = absurd (cc (none, e, ap (place_of request) same))

        seen : (z : List ℕ) (k : ℕ) → Contains (take (i + 1) names) z → place_of request z ≡ Some k → get_or marks k false ≡ true
        seen z k c e = let n : i + 1 ≡ suc i = omega arith in seen_by z k (take-one names i y z at (subst (λ j. Contains (take j names) z) n c)) e

    -- the attribute that has the name
    attribute : (k : ℕ) → place_of request y ≡ Some k
        → (a : List ℕ × Tree) × (slice_get (attributes_at request 0) k ≡ Some a) × (folded y ≡ folded a.0)
    attribute k e =
        let found = position-Some (same_name y) (names_in request 0) k [] e in
        let low : k < length (attributes_at request 0) = omega (arith, found.0, length-map (attributes_at request 0) (λ a. a.0)) in
        let there = get-there (attributes_at request 0) k low in
        (there.0, there.1, same_folded_form y (get_or (names_in request 0) k []) found.1 ∙ ap folded (name-there (attributes_at request 0) k there.0 there.1))

    marked : (k : ℕ) (more : List (List ℕ)) → place_of request y ≡ Some k → ((z : List ℕ) → Contains more z → Contains (needs_at request k) z)
        → ((z : List ℕ) → Contains (needs_at request k) z → Contains (names ++ more) z)
        → IsMarking first request (names ++ more) (i + 1) (slice_set marks k true)
    marked k more e within_needs all_needs =
        let low = get-within names i y at in
        record {
          many = length-set marks k true ∙ m.many;
          upto = omega (arith, low, length-append names more);
          reached = λ z c. reached z (Contains-append_cases names more z c);
          marked = λ j b f h. by_mark j b f (same_or j) h;
          firsts = λ b c h. Contains-append_left names more b.0 (m.firsts b c h);
          seen = seen;
          needs = λ j z h c. needs j z (same_or j) h c;
        }
      where
        found : (a : List ℕ × Tree) × (slice_get (attributes_at request 0) k ≡ Some a) × (folded y ≡ folded a.0)
        found = attribute k e

        within : k < length marks
        within = omega (arith, m.many, get-within (attributes_at request 0) k found.0 found.1)

        here : IsReached first request (folded found.0.0)
        here = subst (IsReached first request) found.2 (m.reached y (contains_at names i y at))

        reached : (z : List ℕ) → Contains names z ⊎ Contains more z → IsReached first request (folded z)
        reached z (inl old) = m.reached z old
        reached z (inr new) =
            is_needed found.0 z (contains_at (attributes_at request 0) k found.0 found.1) here
            (subst (λ ns. Contains ns z) (ap (λ o. option_map_or (needs_of request) o []) found.1) (within_needs z new))

        same_or : (j : ℕ) → (j ≡ k) ⊎ (j ≢ k)
        same_or j = grind arith

        at_k : get_or (slice_set marks k true) k false ≡ true
        at_k = get_or-set_same marks k true false within

        at_other : (j : ℕ) → j ≢ k → get_or (slice_set marks k true) j false ≡ get_or marks j false
        at_other j other = get_or-set_other marks k j true false other

        by_mark : (j : ℕ) (b : List ℕ × Tree) → slice_get (attributes_at request 0) j ≡ Some b → (j ≡ k) ⊎ (j ≢ k)
            → get_or (slice_set marks k true) j false ≡ true → IsReached first request (folded b.0)
        by_mark j b f (inl same) h =
            let equal : found.0 ≡ b = cc (found.1, f, ap (slice_get (attributes_at request 0)) same) in
            subst (λ (d : List ℕ × Tree). IsReached first request (folded d.0)) equal here
        by_mark j b f (inr other) h = m.marked j b f (sym (at_other j other) ∙ h)

        still : (j : ℕ) → (j ≡ k) ⊎ (j ≢ k) → get_or marks j false ≡ true → get_or (slice_set marks k true) j false ≡ true
        still j (inl same) h = ap (λ n. get_or (slice_set marks k true) n false) same ∙ at_k
        still j (inr other) h = at_other j other ∙ h

        seen_by : (z : List ℕ) (j : ℕ) → Contains (take i names) z ⊎ (y ≡ z) → place_of request z ≡ Some j
            → get_or (slice_set marks k true) j false ≡ true
        seen_by z j (inl old) f = still j (same_or j) (m.seen z j old f)
        seen_by z j (inr same) f =
            let equal : j ≡ k = cc (e, f, ap (place_of request) same) in ap (λ n. get_or (slice_set marks k true) n false) equal ∙ at_k

        seen : (z : List ℕ) (j : ℕ) → Contains (take (i + 1) (names ++ more)) z → place_of request z ≡ Some j
            → get_or (slice_set marks k true) j false ≡ true
        seen z j c f =
            let n : i + 1 ≡ suc i = omega arith in seen_by z j (take-more names more i y z at (subst (λ l. Contains (take l (names ++ more)) z) n c)) f

        needs : (j : ℕ) (z : List ℕ) → (j ≡ k) ⊎ (j ≢ k) → get_or (slice_set marks k true) j false ≡ true → Contains (needs_at request j) z
            → Contains (names ++ more) z
        needs j z (inl same) h c = all_needs z (subst (λ n. Contains (needs_at request n) z) same c)
        needs j z (inr other) h c = Contains-append_left names more z (m.needs j z (sym (at_other j other) ∙ h) c)

    place-within : (k : ℕ) → place_of request y ≡ Some k → k < length marks
    place-within k e = let a = attribute k e in omega (arith, m.many, get-within (attributes_at request 0) k a.0 a.1)

    pub marking-turns : IsMarking first request (names_after request y marks names) (i + 1) (marks_after request y marks)
    marking-turns = by (place_of request y) refl
      where
        old : (k : ℕ) → place_of request y ≡ Some k → slice_index_or marks k true ≡ true
            → IsMarking first request names (i + 1) (slice_set marks k true)
        old k e h =
            subst (λ ns. IsMarking first request ns (i + 1) (slice_set marks k true)) (append-nil names)
            (marked k [] e (λ z c. absurd (contains_none z c)) (λ z c. Contains-append_left names [] z
            (m.needs k z (sym (other-default marks k (place-within k e)) ∙ h) c)))

        new : (k : ℕ) → place_of request y ≡ Some k → IsMarking first request (names ++ needs_at request k) (i + 1) (slice_set marks k true)
        new k e = marked k (needs_at request k) e (λ z c. c) (λ z c. Contains-append_right names (needs_at request k) z c)

        either : (k : ℕ) → place_of request y ≡ Some k → (b : Bool) → slice_index_or marks k true ≡ b
            → IsMarking first request (cond b names (names ++ needs_at request k)) (i + 1) (slice_set marks k true)
        either k e true h = old k e h
        either k e false h = new k e

        by : (o : Option ℕ) → place_of request y ≡ o
            → IsMarking first request (option_map_or (λ k. cond (slice_index_or marks k true) names (names ++ needs_at request k)) o names) (i + 1)
            (option_map_or (λ k. slice_set marks k true) o marks)
        by None e = idle e
        by (Some k) e = either k e (slice_index_or marks k true) refl

  -- ---- the end

  module _ (ad : IsAd request) (names : List (List ℕ)) (i : ℕ) (marks : List Bool) (m : IsMarking first request names i marks)
      (all : length names ≤ i) where
    seen-all : (y : List ℕ) (k : ℕ) → Contains names y → place_of request y ≡ Some k → get_or marks k false ≡ true
    seen-all y k c e = m.seen y k (subst (λ l. Contains l y) (sym (take_all i names all)) c) e

    placed : (y : List ℕ) (k : ℕ) (a : List ℕ × Tree) → slice_get (attributes_at request 0) k ≡ Some a → folded a.0 ≡ folded y
        → place_of request y ≡ Some k
    placed y k a e same =
        let named = name-there (attributes_at request 0) k a e in
        let low : k < length (names_in request 0) =
        omega (arith, get-within (attributes_at request 0) k a e, length-map (attributes_at request 0) (λ b. b.0)) in
        named-one y (names_in request 0) k (ad.apart 0) low (same_name-folded y (get_or (names_in request 0) k []) (sym same ∙ ap folded (sym named)))

    reached-marked : {z : List ℕ} → IsReached first request z → (k : ℕ) (a : List ℕ × Tree) → slice_get (attributes_at request 0) k ≡ Some a
        → folded a.0 ≡ z → get_or marks k false ≡ true
    reached-marked (is_first x c) k a e same =
        seen-all a.0 k (m.firsts a (contains_at (attributes_at request 0) k a e) (listed-has_name a.0 first x c (sym same))) (placed a.0 k a e refl)
    reached-marked (is_needed b y stands reached needs) k a e same =
        let there = get-contained (attributes_at request 0) b stands in
        let mark = reached-marked reached there.0 b there.1 refl in
        seen-all y k (m.needs there.0 y mark (subst (λ ns. Contains ns y) (sym (ap (λ o. option_map_or (needs_of request) o []) there.1)) needs))
        (placed y k a e same)

    pub marking-ends : marks ≡ reached_marks first request
    marking-ends = by_places marks (λ a. has_name a.0 (reached_from first request)) (attributes_at request 0) m.many each
      where
        each : (k : ℕ) (a : List ℕ × Tree) → slice_get (attributes_at request 0) k ≡ Some a
            → get_or marks k false ≡ has_name a.0 (reached_from first request)
        each k a e = by (get_or marks k false) refl (has_name a.0 (reached_from first request)) refl
          where
            by : (x : Bool) → get_or marks k false ≡ x → (z : Bool) → has_name a.0 (reached_from first request) ≡ z → x ≡ z
            by true h true g = refl
            by false h false g = refl
            by true h false g = absurd (true≢false (sym ((list_is_least first request a.0).1 (m.marked k a e h)) ∙ g))
            by false h true g = absurd (true≢false (sym (reached-marked ((list_is_least first request a.0).0 g) k a e refl) ∙ h))

-- ---- each turn leaves less to do

pending-set : (request : List Frame) (marks : List Bool) (attributes : List (List ℕ × Tree)) (k : ℕ) (a : List ℕ × Tree)
    → slice_get attributes k ≡ Some a → get_or marks k true ≡ false
    → pending request (slice_set marks k true) attributes + length (needs_of request a) ≡ pending request marks attributes
pending-set request [] attributes k a e h = absurd (cc)
pending-set request (m ∷ marks) [] k a e h = absurd (cc)
pending-set request (true ∷ marks) (b ∷ rest) zero a e h = absurd (cc)
pending-set request (false ∷ marks) (b ∷ rest) zero a e h =
    let same : b ≡ a = cc (e) in let long = ap (λ (c : List ℕ × Tree). length (needs_of request c)) same in omega (arith, long)
pending-set request (true ∷ marks) (b ∷ rest) (suc k) a e h = pending-set request marks rest k a e h
pending-set request (false ∷ marks) (b ∷ rest) (suc k) a e h = omega (arith, pending-set request marks rest k a e h)

pub turn-falls : (request : List Frame) (names : List (List ℕ)) (i : ℕ) (marks : List Bool) (y : List ℕ)
    → length marks ≡ length (attributes_at request 0) → i < length names
    → (length (names_after request y marks names) - (i + 1)) + pending request (marks_after request y marks) (attributes_at request 0)
    < (length names - i) + pending request marks (attributes_at request 0)
turn-falls request names i marks y many low = by (place_of request y)
  where
    fewer : (k : ℕ) (a : List ℕ × Tree) → slice_get (attributes_at request 0) k ≡ Some a → slice_index_or marks k true ≡ false
        → (length (names ++ needs_at request k) - (i + 1)) + pending request (slice_set marks k true) (attributes_at request 0)
        < (length names - i) + pending request marks (attributes_at request 0)
    fewer k a e h =
        let less = pending-set request marks (attributes_at request 0) k a e h in
        let long = ap (λ o. length (option_map_or (needs_of request) o [])) e in
        omega (arith, less, long, low, length-append names (needs_at request k))

    beyond : (k : ℕ) → length (attributes_at request 0) ≤ k → slice_index_or marks k true ≡ true
    beyond k past = get_or_past marks k true (omega (arith, past, many))

    unmarked : (k : ℕ) → slice_index_or marks k true ≡ false → (o : Option (List ℕ × Tree)) → slice_get (attributes_at request 0) k ≡ o
        → (length (names ++ needs_at request k) - (i + 1)) + pending request (slice_set marks k true) (attributes_at request 0)
        < (length names - i) + pending request marks (attributes_at request 0)
    unmarked k h (Some a) e = fewer k a e h
    unmarked k h None e = absurd (true≢false (sym (beyond k (none-past (attributes_at request 0) k e)) ∙ h))
      where
        none-past : {A : Type 0} (xs : List A) (j : ℕ) → slice_get xs j ≡ None → length xs ≤ j
        none-past [] j g = omega arith
        none-past (x ∷ xs) zero g = absurd (cc)
        none-past (x ∷ xs) (suc j) g = omega (arith, none-past xs j g)

    either : (k : ℕ) (b : Bool) → slice_index_or marks k true ≡ b
        → (length (cond b names (names ++ needs_at request k)) - (i + 1)) + pending request (slice_set marks k true) (attributes_at request 0)
        < (length names - i) + pending request marks (attributes_at request 0)
    either k true h = let same = ap (λ l. pending request l (attributes_at request 0)) (set-already marks k h) in omega (arith, same, low)
    either k false h = unmarked k h (slice_get (attributes_at request 0) k) refl

    by : (o : Option ℕ)
        → (length (option_map_or (λ k. cond (slice_index_or marks k true) names (names ++ needs_at request k)) o names) - (i + 1))
        + pending request (option_map_or (λ k. slice_set marks k true) o marks) (attributes_at request 0)
        < (length names - i) + pending request marks (attributes_at request 0)
    by None = omega (arith, low)
    by (Some k) = either k (slice_index_or marks k true) refl

-- ---- the loop

module _ (first : List (List ℕ)) (request : List Frame) (names names2 : List (List ℕ)) (i : ℕ) (marks marks2 : List Bool)
    (m : IsMarking first request names i marks) (low : i < length names)
    (marked : (y : List ℕ) → slice_get names i ≡ Some y → marks2 ≡ marks_after request y marks)
    (named : (y : List ℕ) → slice_get names i ≡ Some y → names2 ≡ names_after request y marks names)
  where
    pub turned : IsMarking first request names2 (i + 1) marks2
    turned =
        let found = get-there names i low in
        subst (λ ns. IsMarking first request ns (i + 1) marks2) (sym (named found.0 found.1))
        (subst (λ ms. IsMarking first request (names_after request found.0 marks names) (i + 1) ms) (sym (marked found.0 found.1))
        (marking-turns first request names i marks m found.0 found.1))

    pub falls : (length names2 - (i + 1)) + pending request marks2 (attributes_at request 0)
        < (length names - i) + pending request marks (attributes_at request 0)
    falls =
        let found = get-there names i low in
        let less = turn-falls request names i marks found.0 m.many low in
        let long = ap (λ l. length l) (named found.0 found.1) in
        let left = ap (λ l. pending request l (attributes_at request 0)) (marked found.0 found.1) in
        omega (arith, less, long, left)

-- ---- the marks by the same names in another order

marks-along-of : (names others : List (List ℕ)) → ((x : List ℕ) → has_name x names ≡ has_name x others) → (attributes : List (List ℕ × Tree))
    → map (λ (a : List ℕ × Tree). has_name a.0 names) attributes ≡ map (λ (a : List ℕ × Tree). has_name a.0 others) attributes
marks-along-of names others same [] = refl
marks-along-of names others same (a ∷ rest) =
    ap (λ b. b ∷ map (λ (c : List ℕ × Tree). has_name c.0 names) rest) (same a.0)
    ∙ ap (λ bs. has_name a.0 others ∷ bs) (marks-along-of names others same rest)

pub marks-along : (first other : List (List ℕ)) → ((x : List ℕ) → has_name x first ≡ has_name x other) → (request : List Frame)
    → reached_marks first request ≡ reached_marks other request
marks-along first other same request =
    marks-along-of (reached_from first request) (reached_from other request) (listed-along first other same request) (attributes_at request 0)
