-- What lists contain that are made of other lists, and names in lists of names.
use Rattle.std.proofs.Common.{◌≡◌, ◌≤◌, ◌<◌, ℕ, zero, suc, Bool, true, false, ◌||◌, true≢false, List, [], ◌∷◌, length, get_or}
use Rattle.std.proofs.Common.{map, position, Option, None, Some, slice_get, Contains, refl, sym, ◌∙◌, ap, subst, arith, ◌⊎◌, inl, inr}
use Rattle.std.specs.List.{position_or_len}
use Rattle.std.proofs.lemmas.Bool.Decides.{Decides-eqb}
use Rattle.std.proofs.lemmas.Grind.{common_steps}
use Rattle.std.proofs.lemmas.List.Quantifiers.{position-Some}
use Rattle.std.proofs.lemmas.List.Sums.{fails_before_first}
use Rattle.std.proofs.lemmas.Slice.Eq.{slice_eq-Decides}
use Rattle.pool_text.specs.Folding.{folded}
use Rattle.ad_tree.specs.Names.{are_apart, has_name, same_name}
use Rattle.ad_tree.proofs.NameLemmas.{both_left, both_right, not_true, same_folded_form}

module _ {A : Type 0} where
  pub contains_first : (a : A) (xs : List A) → Contains (a ∷ xs) a
  contains_first a xs = (0, omega arith, refl)

  pub contains_later : (a : A) (xs : List A) (x : A) → Contains xs x → Contains (a ∷ xs) x
  contains_later a xs x h = let low = h.1 in (suc h.0, omega (arith, low), h.2)

  pub contains_none : (x : A) → Contains [] x → ⊥
  contains_none x h = let low = h.1 in omega (arith, low)

  pub contains_cases : (a : A) (xs : List A) (x : A) → Contains (a ∷ xs) x → (a ≡ x) ⊎ Contains xs x
  contains_cases a xs x (zero, low, is) = inl is
  contains_cases a xs x (suc k, low, is) = inr (k, omega (arith, low), is)

  pub contains_at : (xs : List A) (k : ℕ) (x : A) → slice_get xs k ≡ Some x → Contains xs x
  contains_at [] k x e = absurd (cc)
  contains_at (a ∷ xs) zero x e = let same : a ≡ x = cc in (0, omega arith, same)
  contains_at (a ∷ xs) (suc k) x e = contains_later a xs x (contains_at xs k x e)

-- ---- mapped

pub contains_map : {A B : Type 0} (f : A → B) (xs : List A) (x : A) → Contains xs x → Contains (map f xs) (f x)
contains_map f [] x h = absurd (contains_none x h)
contains_map f (a ∷ xs) x h = elim (contains_cases a xs x h) [
  | inl same ↦ subst (λ b. Contains (f a ∷ map f xs) b) (ap f same) (contains_first (f a) (map f xs))
  | inr rest ↦ contains_later (f a) (map f xs) (f x) (contains_map f xs x rest)
]

pub map_contains : {A B : Type 0} (f : A → B) (xs : List A) (y : B) → Contains (map f xs) y → (x : A) × Contains xs x × (f x ≡ y)
map_contains f [] y h = absurd (contains_none y h)
map_contains f (a ∷ xs) y h = by (map_contains f xs y) (contains_cases (f a) (map f xs) y h)
  where
    by : (Contains (map f xs) y → (x : _) × Contains xs x × (f x ≡ y)) → (f a ≡ y) ⊎ Contains (map f xs) y
        → (x : _) × Contains (a ∷ xs) x × (f x ≡ y)
    by rest (inl same) = (a, contains_first a xs, same)
    by rest (inr later) = let found = rest later in (found.0, contains_later a xs found.0 found.1, found.2)

-- ---- names

pub same_name-folded : (n x : List ℕ) → folded n ≡ folded x → same_name n x ≡ true
same_name-folded n x same = (slice_eq-Decides Decides-eqb (folded n) (folded x) (same_name n x) refl).1 same

pub listed-has_name : (x : List ℕ) (ns : List (List ℕ)) (n : List ℕ) → Contains ns n → folded n ≡ folded x → has_name x ns ≡ true
listed-has_name x [] n h same = absurd (contains_none n h)
listed-has_name x (m ∷ ns) n h same = by (listed-has_name x ns n) (contains_cases m ns n h)
  where
    or_right : (a b : Bool) → b ≡ true → (a || b) ≡ true
    or_right true b e = refl
    or_right false b e = e

    by : (Contains ns n → folded n ≡ folded x → has_name x ns ≡ true) → (m ≡ n) ⊎ Contains ns n → has_name x (m ∷ ns) ≡ true
    by rest (inl is) = ap (λ b. b || has_name x ns) (same_name-folded m x (ap folded is ∙ same))
    by rest (inr later) = or_right (same_name m x) (has_name x ns) (rest later same)

pub has_name-listed : (x : List ℕ) (ns : List (List ℕ)) → has_name x ns ≡ true → (n : List ℕ) × Contains ns n × (folded n ≡ folded x)
has_name-listed x [] h = absurd (cc)
has_name-listed x (m ∷ ns) h = by (has_name-listed x ns) (same_name m x) refl h
  where
    by : (has_name x ns ≡ true → (n : List ℕ) × Contains ns n × (folded n ≡ folded x)) → (b : Bool) → same_name m x ≡ b
        → (b || has_name x ns) ≡ true → (n : List ℕ) × Contains (m ∷ ns) n × (folded n ≡ folded x)
    by rest true is k = (m, contains_first m ns, same_folded_form m x is)
    by rest false is k = let found = rest k in (found.0, contains_later m ns found.0 found.1, found.2)

-- ---- names that are apart

apart-one : (ns : List (List ℕ)) (k l : ℕ) (d : List ℕ) → are_apart ns ≡ true → k < length ns → l < length ns
    → folded (get_or ns k d) ≡ folded (get_or ns l d) → k ≡ l
apart-one [] k l d apart low other same = absurd (omega (arith, low))
apart-one (n ∷ ns) zero zero d apart low other same = refl
apart-one (n ∷ ns) zero (suc l) d apart low other same =
    absurd (true≢false (sym (listed-has_name n ns (get_or ns l d) (within ns l (omega (arith, other))) (sym same))
    ∙ not_true (has_name n ns) (both_left _ _ apart)))
  where
    within : (ms : List (List ℕ)) (j : ℕ) → j < length ms → Contains ms (get_or ms j d)
    within ms j h = contains_get ms j h
      where
        contains_get : (xs : List (List ℕ)) (i : ℕ) → i < length xs → Contains xs (get_or xs i d)
        contains_get [] i g = absurd (omega (arith, g))
        contains_get (x ∷ xs) zero g = contains_first x xs
        contains_get (x ∷ xs) (suc i) g = contains_later x xs (get_or xs i d) (contains_get xs i (omega (arith, g)))
apart-one (n ∷ ns) (suc k) zero d apart low other same =
    absurd (true≢false (sym (listed-has_name n ns (get_or ns k d) (within ns k (omega (arith, low))) same)
    ∙ not_true (has_name n ns) (both_left _ _ apart)))
  where
    within : (xs : List (List ℕ)) (i : ℕ) → i < length xs → Contains xs (get_or xs i d)
    within [] i g = absurd (omega (arith, g))
    within (x ∷ xs) zero g = contains_first x xs
    within (x ∷ xs) (suc i) g = contains_later x xs (get_or xs i d) (within xs i (omega (arith, g)))
apart-one (n ∷ ns) (suc k) (suc l) d apart low other same =
    ap suc (apart-one ns k l d (both_right _ _ apart) (omega (arith, low)) (omega (arith, other)) same)

passed : (p : List ℕ → Bool) (ns : List (List ℕ)) (k : ℕ) (d : List ℕ) → position p ns ≡ None → k < length ns → p (get_or ns k d) ≡ false
passed p ns k d none less =
    let all : length ns ≤ position_or_len p ns = grind (arith, common_steps) in
    fails_before_first p ns k d (omega (arith, all, less))

-- a name stands where an equal one does
pub named-one : (x : List ℕ) (ns : List (List ℕ)) (k : ℕ) → are_apart ns ≡ true → k < length ns → same_name x (get_or ns k []) ≡ true
    → position (same_name x) ns ≡ Some k
named-one x ns k apart low same = by (position (same_name x) ns) refl
  where
    by : (o : Option ℕ) → position (same_name x) ns ≡ o → o ≡ Some k
    by None at = absurd (true≢false (sym same ∙ passed (same_name x) ns k [] at low))
    by (Some l) at =
        let found = position-Some (same_name x) ns l [] at in
        ap Option.Some (apart-one ns l k [] apart found.0 low (sym (same_folded_form x (get_or ns l []) found.1) ∙ same_folded_form x (get_or ns k []) same))
