-- The list of the names that are reached is the least set.
use Rattle.std.proofs.Common.{◌≡◌, ◌≤◌, ℕ, zero, suc, Bool, true, false, cond, true≢false, List, [], ◌∷◌, ◌++◌, length, Option, None}
use Rattle.std.proofs.Common.{Some, option_map, Contains, refl, sym, ◌∙◌, ap, subst, arith, ◌⊎◌, inl, inr}
use Rattle.std.specs.Prelude.{◌↔◌}
use Rattle.std.specs.List.{flat_map}
use Rattle.std.specs.Option.{option_map_or}
use Rattle.std.proofs.lemmas.List.Elements.{Contains-append_cases, Contains-append_left, Contains-append_right}
use Rattle.pool_text.specs.Folding.{folded}
use Rattle.ad_tree.specs.Frames.{Frame, attributes_at}
use Rattle.ad_tree.specs.Inline.{spelled_tree}
use Rattle.ad_tree.specs.Names.{has_name}
use Rattle.ad_tree.specs.Tree.{Tree}
use Rattle.significant_attrs.specs.Names.{asked_by, needed_in}
use Rattle.significant_attrs.specs.Reach.{IsReached, is_first, is_needed, closure, picked, reached_from, root_needs}
use Rattle.significant_attrs.proofs.ContainLemmas.{contains_first, contains_later, contains_none, contains_cases, contains_map, map_contains, has_name-listed}
use Rattle.significant_attrs.proofs.ContainLemmas.{listed-has_name}

-- an attribute's name with what it needs
abbrev Needs : Type 0
Needs = List ℕ × List (List ℕ)

-- what was picked is one of the attributes, whose name is listed, and the others are left
record Picks (names : List (List ℕ)) (attributes : List Needs) (p : List (List ℕ) × List Needs) : Type 0 where
  first : Needs
  stands : Contains attributes first
  listed : has_name first.0 names ≡ true
  needs : first.1 ≡ p.0
  left : (b : Needs) → Contains p.1 b → Contains attributes b
  each : (b : Needs) → Contains attributes b → (first ≡ b) ⊎ Contains p.1 b
  fewer : length attributes ≡ suc (length p.1)

Picks-later : (names : List (List ℕ)) (a : Needs) (rest : List Needs) (p : List (List ℕ) × List Needs) → Picks names rest p
    → Picks names (a ∷ rest) (p.0, a ∷ p.1)
Picks-later names a rest p h = record {
  first = h.first;
  stands = contains_later a rest h.first h.stands;
  listed = h.listed;
  needs = h.needs;
  left = λ b c. left b (contains_cases a p.1 b c);
  each = λ b c. each b (contains_cases a rest b c);
  fewer = ap suc h.fewer;
}
  where
    left : (b : Needs) → (a ≡ b) ⊎ Contains p.1 b → Contains (a ∷ rest) b
    left b (inl same) = subst (Contains (a ∷ rest)) same (contains_first a rest)
    left b (inr c) = contains_later a rest b (h.left b c)

    each_rest : (b : Needs) → (h.first ≡ b) ⊎ Contains p.1 b → (h.first ≡ b) ⊎ Contains (a ∷ p.1) b
    each_rest b (inl same) = inl same
    each_rest b (inr c) = inr (contains_later a p.1 b c)

    each : (b : Needs) → (a ≡ b) ⊎ Contains rest b → (h.first ≡ b) ⊎ Contains (a ∷ p.1) b
    each b (inl same) = inr (subst (Contains (a ∷ p.1)) same (contains_first a p.1))
    each b (inr c) = each_rest b (h.each b c)

Picks-here : (names : List (List ℕ)) (a : Needs) (rest : List Needs) → has_name a.0 names ≡ true → Picks names (a ∷ rest) (a.1, rest)
Picks-here names a rest listed = record {
  first = a;
  stands = contains_first a rest;
  listed = listed;
  needs = refl;
  left = λ b c. contains_later a rest b c;
  each = λ b c. contains_cases a rest b c;
  fewer = refl;
}

picks : (names : List (List ℕ)) (attributes : List Needs) (p : List (List ℕ) × List Needs) → picked names attributes ≡ Some p
    → Picks names attributes p
picks names [] p e = absurd (cc)
picks names (a ∷ rest) p e = by (picks names rest) (has_name a.0 names) refl e
  where
    later : ((q : List (List ℕ) × List Needs) → picked names rest ≡ Some q → Picks names rest q) → (o : Option (List (List ℕ) × List Needs))
        → picked names rest ≡ o
        → option_map {U = List (List ℕ) × List Needs} (λ q. (q.0, a ∷ q.1)) o ≡ Some p → Picks names (a ∷ rest) p
    later deeper None at e = absurd (cc)
    later deeper (Some q) at e = let same : (q.0, a ∷ q.1) ≡ p = cc in subst (Picks names (a ∷ rest)) same (Picks-later names a rest q (deeper q at))

    by : ((q : List (List ℕ) × List Needs) → picked names rest ≡ Some q → Picks names rest q) → (b : Bool) → has_name a.0 names ≡ b
        → cond b (Some (a.1, rest)) (option_map {U = List (List ℕ) × List Needs} (λ q. (q.0, a ∷ q.1)) (picked names rest)) ≡ Some p
        → Picks names (a ∷ rest) p
    by deeper true listed e = let same : (a.1, rest) ≡ p = cc in subst (Picks names (a ∷ rest)) same (Picks-here names a rest listed)
    by deeper false unlisted e = later deeper (picked names rest) refl e

-- where none is picked, no name is listed
none_listed : (names : List (List ℕ)) (attributes : List Needs) → picked names attributes ≡ None → (b : Needs) → Contains attributes b
    → has_name b.0 names ≡ false
none_listed names [] e b c = absurd (contains_none b c)
none_listed names (a ∷ rest) e b c = by (none_listed names rest) (has_name a.0 names) refl e (contains_cases a rest b c)
  where
    left : (o : Option (List (List ℕ) × List Needs)) → option_map {U = List (List ℕ) × List Needs} (λ q. (q.0, a ∷ q.1)) o ≡ None → o ≡ None
    left None h = refl
    left (Some q) h = absurd (cc)

    by : (picked names rest ≡ None → (b : Needs) → Contains rest b → has_name b.0 names ≡ false) → (x : Bool) → has_name a.0 names ≡ x
        → cond x (Some (a.1, rest)) (option_map {U = List (List ℕ) × List Needs} (λ q. (q.0, a ∷ q.1)) (picked names rest)) ≡ None
        → (a ≡ b) ⊎ Contains rest b → has_name b.0 names ≡ false
    by deeper true listed e found = absurd (cc)
    by deeper false unlisted e (inl same) = sym (ap (λ (d : Needs). has_name d.0 names) same) ∙ unlisted
    by deeper false unlisted e (inr later) = deeper (left (picked names rest) e) b later

-- ---- one step

-- names stay
grows : (n : ℕ) (names : List (List ℕ)) (attributes : List Needs) (y : List ℕ) → Contains names y → Contains (closure n names attributes) y
grows zero names attributes y h = h
grows (suc n) names attributes y h = by (grows n) (picked names attributes)
  where
    by : ((ms : List (List ℕ)) (rows : List Needs) (z : List ℕ) → Contains ms z → Contains (closure n ms rows) z)
        → (o : Option (List (List ℕ) × List Needs))
        → Contains (option_map_or (λ (p : List (List ℕ) × List Needs). closure n (names ++ p.0) p.1) o names) y
    by deeper None = h
    by deeper (Some p) = deeper (names ++ p.0) p.1 y (Contains-append_left names p.0 y h)

-- what the first names keep, and each attribute hands on to what it needs, all names keep
sound : (P : List ℕ → Type 0) (n : ℕ) (names : List (List ℕ)) (attributes : List Needs) → ((y : List ℕ) → Contains names y → P (folded y))
    → ((a : Needs) → Contains attributes a → P (folded a.0) → (y : List ℕ) → Contains a.1 y → P (folded y))
    → (y : List ℕ) → Contains (closure n names attributes) y → P (folded y)
sound P zero names attributes firsts steps y c = firsts y c
sound P (suc n) names attributes firsts steps y c = by (sound P n) (picked names attributes) refl c
  where
    joined : (p : List (List ℕ) × List Needs) → Picks names attributes p → (z : List ℕ) → Contains names z ⊎ Contains p.0 z → P (folded z)
    joined p h z (inl old) = firsts z old
    joined p h z (inr new) =
        let found = has_name-listed h.first.0 names h.listed in
        steps h.first h.stands (subst P found.2 (firsts found.0 found.1)) z (subst (λ ns. Contains ns z) (sym h.needs) new)

    by : ((ms : List (List ℕ)) (rows : List Needs) → ((y : List ℕ) → Contains ms y → P (folded y))
        → ((a : Needs) → Contains rows a → P (folded a.0) → (y : List ℕ) → Contains a.1 y → P (folded y))
        → (y : List ℕ) → Contains (closure n ms rows) y → P (folded y)) → (o : Option (List (List ℕ) × List Needs))
        → picked names attributes ≡ o
        → Contains (option_map_or (λ (p : List (List ℕ) × List Needs). closure n (names ++ p.0) p.1) o names) y → P (folded y)
    by deeper None at c = firsts y c
    by deeper (Some p) at c =
        let h = picks names attributes p at in
        deeper (names ++ p.0) p.1 (λ z k. joined p h z (Contains-append_cases names p.0 z k)) (λ a k. steps a (h.left a k)) y c

-- what an attribute of a listed name needs is listed in the end
closed : (n : ℕ) (names : List (List ℕ)) (attributes : List Needs) → length attributes ≤ n → (a : Needs) → Contains attributes a
    → has_name a.0 (closure n names attributes) ≡ true
    → (y : List ℕ) → Contains a.1 y → Contains (closure n names attributes) y
closed zero [] [] low a c listed y h = absurd (contains_none a c)
closed zero (m ∷ names) [] low a c listed y h = absurd (contains_none a c)
closed zero names (b ∷ rest) low a c listed y h = absurd (omega (arith, low))
closed (suc n) names attributes low a c listed y h = by (closed n) (picked names attributes) refl listed
  where
    by : ((ms : List (List ℕ)) (rows : List Needs) → length rows ≤ n → (a : Needs) → Contains rows a → has_name a.0 (closure n ms rows) ≡ true
        → (y : List ℕ) → Contains a.1 y → Contains (closure n ms rows) y)
        → (o : Option (List (List ℕ) × List Needs)) → picked names attributes ≡ o
        → has_name a.0 (option_map_or (λ (p : List (List ℕ) × List Needs). closure n (names ++ p.0) p.1) o names) ≡ true
        → Contains (option_map_or (λ (p : List (List ℕ) × List Needs). closure n (names ++ p.0) p.1) o names) y
    by deeper None at listed = absurd (true≢false (sym listed ∙ none_listed names attributes at a c))
    by deeper (Some p) at listed = found (picks names attributes p at)
      where
        found : Picks names attributes p → Contains (closure n (names ++ p.0) p.1) y
        found q = chosen (q.each a c)
          where
            chosen : (q.first ≡ a) ⊎ Contains p.1 a → Contains (closure n (names ++ p.0) p.1) y
            chosen (inl same) =
                let here : a.1 ≡ p.0 = sym (ap (λ (d : Needs). d.1) same) ∙ q.needs in
                grows n (names ++ p.0) p.1 y (Contains-append_right names p.0 y (subst (λ ns. Contains ns y) here h))
            chosen (inr later) = let fewer = q.fewer in deeper (names ++ p.0) p.1 (omega (arith, low, fewer)) a later listed y h

-- ---- the two agree

module _ (first : List (List ℕ)) (request : List Frame) where
  -- a name with this folded form is listed
  abbrev IsListed : List ℕ → Type 0
  IsListed z = (n : List ℕ) × Contains (closure (length (root_needs request)) first (root_needs request)) n × (folded n ≡ z)

  reached-listed : {z : List ℕ} → IsReached first request z → IsListed z
  reached-listed (is_first x c) = (x, grows (length (root_needs request)) first (root_needs request) x c, refl)
  reached-listed (is_needed a y stands reached needs) =
      let found = reached-listed reached in
      let own : Needs = (a.0, needed_in (spelled_tree request a.1)) in (
        y,
        closed (length (root_needs request)) first (root_needs request) (omega arith) own
            (contains_map (λ (b : List ℕ × Tree). (b.0, needed_in (spelled_tree request b.1))) (attributes_at request 0) a stands)
            (listed-has_name a.0 (closure (length (root_needs request)) first (root_needs request)) found.0 found.1 found.2) y needs,
        refl,
      )

  listed-reached : (y : List ℕ) → Contains (closure (length (root_needs request)) first (root_needs request)) y → IsReached first request (folded y)
  listed-reached y c = sound (IsReached first request) (length (root_needs request)) first (root_needs request) (λ z k. is_first z k) steps y c
    where
      steps : (a : Needs) → Contains (root_needs request) a → IsReached first request (folded a.0) → (z : List ℕ) → Contains a.1 z
          → IsReached first request (folded z)
      steps a k reached z needs =
          let found = map_contains (λ (b : List ℕ × Tree). (b.0, needed_in (spelled_tree request b.1))) (attributes_at request 0) a k in
          is_needed found.0 z found.1 (subst (IsReached first request) (ap (λ (d : Needs). folded d.0) (sym found.2)) reached)
          (subst (λ ns. Contains ns z) (ap (λ (d : Needs). d.1) (sym found.2)) needs)

  pub list_is_least : (x : List ℕ) → (has_name x (reached_from first request) ≡ true) ↔ IsReached first request (folded x)
  unfolding reached_from
  list_is_least x = (listed, reached)
    where
      listed : has_name x (closure (length (root_needs request)) first (root_needs request)) ≡ true → IsReached first request (folded x)
      listed h =
          let found =
          has_name-listed x (closure (length (root_needs request)) first (root_needs request)) h in subst (IsReached first request) found.2
          (listed-reached found.0 found.1)

      reached : IsReached first request (folded x) → has_name x (closure (length (root_needs request)) first (root_needs request)) ≡ true
      reached h = let found = reached-listed h in listed-has_name x (closure (length (root_needs request)) first (root_needs request)) found.0 found.1 found.2

-- the names of an ad are among those from which it goes on
pub flat_map-names : (ads : List (List Frame)) (ad : List Frame) (y : List ℕ) → Contains ads ad → Contains (asked_by ad) y
    → Contains (flat_map asked_by ads) y
flat_map-names [] ad y c h = absurd (contains_none ad c)
flat_map-names (a ∷ ads) ad y c h = by (flat_map-names ads ad y) (contains_cases a ads ad c)
  where
    by : (Contains ads ad → Contains (asked_by ad) y → Contains (flat_map asked_by ads) y) → (a ≡ ad) ⊎ Contains ads ad
        → Contains (flat_map asked_by (a ∷ ads)) y
    by rest (inl same) = Contains-append_left (asked_by a) (flat_map asked_by ads) y (subst (λ x. Contains (asked_by x) y) (sym same) h)
    by rest (inr later) = Contains-append_right (asked_by a) (flat_map asked_by ads) y (rest later h)

-- ---- the same names in another order

reached-along : (first other : List (List ℕ)) → ((x : List ℕ) → has_name x first ≡ has_name x other) → (request : List Frame) {z : List ℕ}
    → IsReached first request z → IsReached other request z
reached-along first other same request (is_first x c) =
    let found = has_name-listed x other (sym (same x) ∙ listed-has_name x first x c refl) in
    subst (IsReached other request) found.2 (is_first found.0 found.1)
reached-along first other same request (is_needed a y stands reached needs) = is_needed a y stands (reached-along first other same request reached) needs

pub listed-along : (first other : List (List ℕ)) → ((x : List ℕ) → has_name x first ≡ has_name x other) → (request : List Frame) (x : List ℕ)
    → has_name x (reached_from first request) ≡ has_name x (reached_from other request)
listed-along first other same request x = by (has_name x (reached_from first request)) refl (has_name x (reached_from other request)) refl
  where
    by : (a : Bool) → has_name x (reached_from first request) ≡ a → (b : Bool) → has_name x (reached_from other request) ≡ b → a ≡ b
    by true h true g = refl
    by false h false g = refl
    by true h false g =
        absurd (true≢false (sym ((list_is_least other request x).1 (reached-along first other same request ((list_is_least first request x).0 h))) ∙ g))
    by false h true g =
        absurd (true≢false (sym ((list_is_least first request x).1
        (reached-along other first (λ y. sym (same y)) request ((list_is_least other request x).0 g))) ∙ h))
