-- A name stands at the place of any attribute of its frame whose name is equal to it, since names are apart.
use Rattle.std.proofs.Common.{refl, sym, arith, ◌≡◌, ◌∙◌, ap, ℕ, zero, suc, ◌+◌, Bool, true, false, not, ◌||◌, cond, List, [], ◌∷◌, length, None, Some, slice_get, IsTrue, nat_lt, position}
use Rattle.std.specs.List.{position_or_len}
use Rattle.std.specs.Option.{option_and_then}
use Rattle.std.proofs.lemmas.Bool.Decides.{Decides-eqb}
use Rattle.std.proofs.lemmas.Option.{slice_get-map, slice_get_within}
use Rattle.std.proofs.lemmas.Slice.Eq.{slice_eq-Decides}
use Rattle.pool_text.specs.Folding.{folded}
use Rattle.ad_tree.specs.Tree.{Tree}
use Rattle.ad_tree.specs.Names.{same_name, has_name, are_apart}
use Rattle.ad_tree.specs.Frames.{Frame, attributes_at, names_in, name_at, expr_at}
use Rattle.ad_tree.specs.Enclosing.{expr_named}
use Rattle.ad_tree.proofs.NameLemmas.{both_left, both_right, not_true, same_folded_form}

-- names of one folded form are equal
equal-names : (a b : List ℕ) → folded a ≡ folded b → same_name a b ≡ true
equal-names a b h = (slice_eq-Decides Decides-eqb (folded a) (folded b) (same_name a b) refl).1 h

-- a name that stands among some is one of them
one-of-them : (name : List ℕ) (names : List (List ℕ)) (k : ℕ) (there : List ℕ) → slice_get names k ≡ Some there → same_name there name ≡ true
    → has_name name names ≡ true
one-of-them name [] k there at same = absurd (cc)
one-of-them name (n ∷ ns) zero there at same =
    let here : n ≡ there = cc in
    ap (λ m. same_name m name || has_name name ns) here ∙ ap (λ b. b || has_name name ns) same
one-of-them name (n ∷ ns) (suc k) there at same = by (same_name n name) (one-of-them name ns k there at same)
  where
    by : (b : Bool) → has_name name ns ≡ true → (b || has_name name ns) ≡ true
    by true is = refl
    by false is = is

-- none before it is equal, since names are apart
first-there : (name : List ℕ) (names : List (List ℕ)) (k : ℕ) (there : List ℕ) → are_apart names ≡ true → slice_get names k ≡ Some there
    → folded name ≡ folded there → position_or_len (same_name name) names ≡ k
first-there name [] k there apart at same = absurd (cc)
first-there name (n ∷ ns) zero there apart at same =
    let here : n ≡ there = cc in
    let equal : same_name name n ≡ true = equal-names name n (same ∙ ap folded (sym here)) in
    ap (λ b. cond (not b) (1 + position_or_len (same_name name) ns) 0) equal
first-there name (n ∷ ns) (suc k) there apart at same = by (same_name name n) refl (first-there name ns k there (both_right _ _ apart) at same)
  where
    by : (b : Bool) → same_name name n ≡ b → position_or_len (same_name name) ns ≡ k → cond (not b) (1 + position_or_len (same_name name) ns) 0 ≡ suc k
    by true is rest =
        let twice : has_name n ns ≡ true = one-of-them n ns k there at (equal-names there n (sym same ∙ same_folded_form name n is)) in
        let once : has_name n ns ≡ false = not_true _ (both_left _ _ apart) in
        absurd (cc)
    by false is rest = omega (arith, rest)

-- the place of a name in a list
position-there : (name : List ℕ) (names : List (List ℕ)) (k : ℕ) (there : List ℕ) → are_apart names ≡ true → slice_get names k ≡ Some there
    → folded name ≡ folded there → position (same_name name) names ≡ Some k
position-there name names k there apart at same =
    let tested : nat_lt k (length names) ≡ true = grind (arith, slice_get_within names k there at) in
    ap (λ n. cond (nat_lt n (length names)) (Some n) None) (first-there name names k there apart at same) ∙ ap (λ b. cond b (Some k) None) tested

-- an attribute whose name is equal to this one has the expression that this one has in the frame
pub expr-there : (fs : List Frame) (f k : ℕ) (name there : List ℕ) (t : Tree) → IsTrue (are_apart (names_in fs f)) → name_at fs f k ≡ Some there
    → folded name ≡ folded there → expr_at fs f k ≡ Some t → expr_named fs f name ≡ Some t
expr-there fs f k name there t apart at same has =
    ap (option_and_then (λ i. expr_at fs f i)) (position-there name (names_in fs f) k there apart (slice_get-map (λ a. a.0) (attributes_at fs f) k ∙ at) same)
    ∙ has
