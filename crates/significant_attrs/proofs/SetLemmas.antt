-- Names in a set of folded names.
use Rattle.std.proofs.Common.{◌≡◌, ℕ, Bool, true, false, ◌||◌, true≢false, List, [], ◌∷◌, ◌++◌, map, drop, bytes_eq, Some, slice_get}
use Rattle.std.proofs.Common.{Result, Ok, Err, OnOk, zero, suc, ◌+◌, refl, sym, ◌∙◌, ap, arith}
use Rattle.std.proofs.Common.{Vec}
use Rattle.std.specs.declared.alloc.Global.{Global}
use Rattle.std.specs.declared.cmp.Ordering.{Ordering}
use Rattle.std.specs.declared.cmp.Ordering.TheVariants.{Equal, Greater, Less}
use Rattle.std.specs.Ordering.{is_eq, match_ordering, nat_cmp}
use Rattle.std.specs.BTreeMap.{is_at}
use Rattle.std.specs.BTreeSet.{insert_key}
use Rattle.std.specs.Char.{to_ascii_lowercase}
use Rattle.std.specs.Cmp.Lexicographic.{on_texts_equal, slice_cmp}
use Rattle.std.specs.List.{list_any}
use Rattle.std.proofs.lemmas.Bool.Decides.{nat_tests}
use Rattle.std.proofs.lemmas.Map.Text.{is_eq-slice_cmp}
use Rattle.std.proofs.lemmas.Slice.Eq.{bytes_eq-Decides}
use Rattle.pool_text.specs.Folding.{folded}
use Rattle.ad_tree.specs.Names.{has_name, same_name}
use Rattle.ad_tree.proofs.NameLemmas.{has_name-append, same_folded_form}
use Rattle.significant_attrs.proofs.ContainLemmas.{has_name-listed, listed-has_name}

small-small : (b : ℕ) → to_ascii_lowercase (to_ascii_lowercase b) ≡ to_ascii_lowercase b
small-small b = grind (arith, nat_tests)

pub folded-folded : (x : List ℕ) → folded (folded x) ≡ folded x
folded-folded [] = refl
folded-folded (b ∷ x) = ap (λ c. c ∷ folded (folded x)) (small-small b) ∙ ap (λ l. to_ascii_lowercase b ∷ l) (folded-folded x)

pub same_name-back : (a b : List ℕ) → same_name a b ≡ same_name b a
same_name-back a b = (on_texts_equal folded).symm a b

-- a folded name is found among folded names as the name is
pub set-has : {K : Type 0} (items : K → List ℕ) (keys : List K) (x : List ℕ) → map folded (map items keys) ≡ map items keys
    → list_any (λ key. bytes_eq (folded x) (items key)) keys ≡ has_name x (map items keys)
set-has items [] x h = refl
set-has items (k ∷ keys) x h = by (set-has items keys x)
  where
    first : folded (items k) ≡ items k
    first = cc (h)

    rest : map folded (map items keys) ≡ map items keys
    rest = cc (h)

    by : (map folded (map items keys) ≡ map items keys → list_any (λ key. bytes_eq (folded x) (items key)) keys ≡ has_name x (map items keys))
        → (bytes_eq (folded x) (items k) || list_any (λ key. bytes_eq (folded x) (items key)) keys)
        ≡ (same_name (items k) x || has_name x (map items keys))
    by later =
        ap (λ b. b || list_any (λ key. bytes_eq (folded x) (items key)) keys) (ap (bytes_eq (folded x)) (sym first) ∙ same_name-back x (items k))
        ∙ ap (λ b. same_name (items k) x || b) (later rest)

-- ---- a key more in an order

or-false : (b : Bool) → (b || false) ≡ b
or-false true = refl
or-false false = refl

or-swap : (a b : Bool) → (a || b) ≡ (b || a)
or-swap true b = by b
  where
    by : (b : Bool) → true ≡ (b || true)
    by true = refl
    by false = refl
or-swap false b = sym (or-false b)

or-group : (a b c : Bool) → (a || (b || c)) ≡ ((a || b) || c)
or-group true b c = refl
or-group false b c = refl

or-has : (a b : Bool) → (a || b) ≡ ((a || b) || a)
or-has true b = refl
or-has false b = sym (or-false b)

-- one name more
pub has-push : (x n : List ℕ) (ns : List (List ℕ)) → has_name x (ns ++ n ∷ []) ≡ (has_name x ns || same_name n x)
has-push x n ns = has_name-append x ns (n ∷ []) ∙ ap (λ b. has_name x ns || b) (or-false (same_name n x))

-- it has that name besides, where keys that compare equal have one name
pub has-inserted : {K : Type 0} (compare : K → K → Ordering) (items : K → List ℕ) (x : List ℕ) (k : K)
    → ((y : K) → compare k y ≡ Equal → items k ≡ items y) → (keys : List K)
    → has_name x (map items (insert_key compare keys k)) ≡ (has_name x (map items keys) || same_name (items k) x)
has-inserted compare items x k equal [] = or-false (same_name (items k) x)
has-inserted compare items x k equal (y ∷ keys) = by (has-inserted compare items x k equal keys) (compare k y) refl
  where
    rest : Bool
    rest = has_name x (map items keys)

    by : (has_name x (map items (insert_key compare keys k)) ≡ (rest || same_name (items k) x)) → (o : Ordering) → compare k y ≡ o
        → has_name x (map items (match_ordering o (k ∷ y ∷ keys) (y ∷ keys) (y ∷ insert_key compare keys k)))
        ≡ ((same_name (items y) x || rest) || same_name (items k) x)
    by later Less is = or-swap (same_name (items k) x) (same_name (items y) x || rest)
    by later Equal is =
        or-has (same_name (items y) x) rest ∙ ap (λ n. (same_name (items y) x || rest) || same_name n x) (sym (equal y is))
    by later Greater is =
        ap (λ b. same_name (items y) x || b) later
        ∙ or-group (same_name (items y) x) rest (same_name (items k) x)

-- folded names stay so with one more
pub folded-inserted : {K : Type 0} (compare : K → K → Ordering) (items : K → List ℕ) (k : K) → folded (items k) ≡ items k → (keys : List K)
    → map folded (map items keys) ≡ map items keys
    → map folded (map items (insert_key compare keys k)) ≡ map items (insert_key compare keys k)
folded-inserted compare items k small [] h = ap (λ n. n ∷ []) small
folded-inserted compare items k small (y ∷ keys) h = by (folded-inserted compare items k small keys) (compare k y)
  where
    first : folded (items y) ≡ items y
    first = cc (h)

    rest : map folded (map items keys) ≡ map items keys
    rest = cc (h)

    by : (map folded (map items keys) ≡ map items keys → map folded (map items (insert_key compare keys k)) ≡ map items (insert_key compare keys k))
        → (o : Ordering) → map folded (map items (match_ordering o (k ∷ y ∷ keys) (y ∷ keys) (y ∷ insert_key compare keys k)))
        ≡ map items (match_ordering o (k ∷ y ∷ keys) (y ∷ keys) (y ∷ insert_key compare keys k))
    by later Less = ap (λ n. n ∷ map folded (map items (y ∷ keys))) small ∙ ap (λ l. items k ∷ l) h
    by later Equal = h
    by later Greater =
        ap (λ n. n ∷ map folded (map items (insert_key compare keys k))) first
        ∙ ap (λ l. items y ∷ l) (later rest)

-- keys that compare equal have one name
pub equal-items : (a b : Vec ℕ Global) → slice_cmp nat_cmp a.items b.items ≡ Equal → a.items ≡ b.items
equal-items a b is = (bytes_eq-Decides a.items b.items).0 (sym (is_eq-slice_cmp a.items b.items) ∙ ap is_eq is)

any-same : {K : Type 0} (one other : K → Bool) → ((key : K) → one key ≡ other key) → (keys : List K) → list_any one keys ≡ list_any other keys
any-same one other same [] = refl
any-same one other same (key ∷ keys) = ap (λ b. b || list_any one keys) (same key) ∙ ap (λ b. other key || b) (any-same one other same keys)

-- a name is found by comparing
pub asked : (name : List ℕ) (keys : List (Vec ℕ Global))
    → list_any (is_at (λ key. slice_cmp nat_cmp name key.items)) keys ≡ list_any (λ key. bytes_eq name key.items) keys
asked name keys = any-same (is_at (λ key. slice_cmp nat_cmp name key.items)) (λ key. bytes_eq name key.items) (λ key. is_eq-slice_cmp name key.items) keys

-- a name that is there adds nothing
pub has-again : (x n : List ℕ) (ns : List (List ℕ)) → has_name n ns ≡ true → has_name x ns ≡ (has_name x ns || same_name n x)
has-again x n ns there = by (has_name x ns) (same_name n x) refl refl
  where
    by : (a b : Bool) → has_name x ns ≡ a → same_name n x ≡ b → a ≡ (a || b)
    by true b is also = refl
    by false false is also = refl
    by false true is also =
        let found = has_name-listed n ns there in
        absurd (true≢false (sym (listed-has_name x ns found.0 found.1 (found.2 ∙ same_folded_form n x also)) ∙ is))

-- a set with a folded name more has the name besides
pub pushed-folded : {A E : Type 0} (r : Result A E) (old new : List (List ℕ)) (x n : List ℕ) → n ≡ folded x
    → OnOk r ((y : List ℕ) → has_name y new ≡ has_name y (old ++ n ∷ []))
    → OnOk r ((y : List ℕ) → has_name y new ≡ (has_name y old || same_name x y))
pushed-folded (Ok done) old new x n is ok = λ y.
    ok y ∙ has-push y n old ∙ ap (λ f. has_name y old || bytes_eq f (folded y)) (ap folded is ∙ folded-folded x)
pushed-folded (Err e) old new x n is ok = ok

-- the names so far with one more, and those that are left
pub set-added : (set set2 : List (List ℕ)) (names : List (List ℕ)) (i : ℕ) (n : List ℕ) → slice_get names i ≡ Some n
    → ((y : List ℕ) → has_name y set2 ≡ (has_name y set || same_name n y))
    → ((x : List ℕ) → (has_name x set || has_name x (drop i names)) ≡ has_name x names) → (x : List ℕ)
    → (has_name x set2 || has_name x (drop (i + 1) names)) ≡ has_name x names
set-added set set2 names i n at grown so_far x =
    ap (λ b. b || has_name x (drop (i + 1) names)) (grown x)
    ∙ regroup (has_name x set) (same_name n x) (has_name x (drop (i + 1) names))
    ∙ ap (λ l. has_name x set || has_name x l) (sym (next names i at))
    ∙ so_far x
  where
    regroup : (a b c : Bool) → ((a || b) || c) ≡ (a || (b || c))
    regroup true b c = refl
    regroup false b c = refl

    next : (xs : List (List ℕ)) (j : ℕ) → slice_get xs j ≡ Some n → drop j xs ≡ n ∷ drop (j + 1) xs
    next [] j e = absurd (cc)
    next (y ∷ xs) zero e = let same : y ≡ n = cc (e) in ap (λ z. z ∷ xs) same
    next (y ∷ xs) (suc j) e =
        let m : suc j + 1 ≡ suc (j + 1) = omega arith in
        next xs j e ∙ ap (λ k. n ∷ drop k (y ∷ xs)) (sym m)
