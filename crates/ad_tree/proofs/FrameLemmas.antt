-- A frame's set of attributes: what the set does with equal attributes is done with equal names.
use Rattle.std.proofs.Common.{refl, arith, ◌≡◌, ◌≤◌, ℕ, zero, suc, ◌+◌, List, [], ◌∷◌, ◌++◌, length, Bool, true, false, not, cond, ◌||◌, ap, ◌∙◌, None, Some}
use Rattle.std.proofs.Common.{position, nat_lt, Result, Ok, Err, OnOk, OnErr, IsTrue, sym, subst}
use Rattle.std.specs.List.{prefix_len, find, list_any}
use Rattle.std.specs.Set.{swap_key}
use Rattle.std.proofs.lemmas.List.{length-map}
use Rattle.indexmap.specs.IndexSet.{replace_key}
use Rattle.ad_tree.specs.declared.attribute.Attribute.{Attribute}
use Rattle.ad_tree.specs.declared.frame.AdFrame.{AdFrame}
use Rattle.ad_tree.specs.Steady.{MovesNone}
use Rattle.ad_tree.specs.Tree.{Tree, tree, cited}
use Rattle.ad_tree.specs.Names.{same_name, are_apart}
use Rattle.ad_tree.specs.Frames.{put_attribute, names_of, names_in}
use Rattle.ad_tree.specs.Attributes.{attribute_of, attributes_of}
use Rattle.ad_tree.specs.Table.{frames_of}
use Rattle.ad_tree.proofs.AttributeLemmas.{put_name, apart-put_name}

-- attributes are equal where their names are
abbrev pub same_attribute : Attribute → Attribute → Bool
same_attribute a b = same_name a.name b.name

-- the set's replacement defines the attribute
pub attributes-replace : (a : Attribute) (bs : List Attribute)
    → attributes_of (replace_key same_attribute bs a) ≡ put_attribute a.name (tree a.expr) (attributes_of bs)
attributes-replace a [] = refl
attributes-replace a (b ∷ bs) = by (same_attribute a b) (list_any (same_attribute a) bs) (attributes-replace a bs)
  where
    by : (here later : Bool)
        → attributes_of (cond later (swap_key (same_attribute a) bs a) (bs ++ a ∷ [])) ≡ put_attribute a.name (tree a.expr) (attributes_of bs)
        → attributes_of (cond (here || later) (cond here (a ∷ bs) (b ∷ swap_key (same_attribute a) bs a)) (b ∷ (bs ++ a ∷ [])))
        ≡ cond here (attribute_of a ∷ attributes_of bs) (attribute_of b ∷ put_attribute a.name (tree a.expr) (attributes_of bs))
    by true later h = refl
    by false true h = ap (λ rest. attribute_of b ∷ rest) h
    by false false h = ap (λ rest. attribute_of b ∷ rest) h

-- an attribute in the place of another moves no ad literal where neither has one
pub moves_none-found : (a : Attribute) (bs : List Attribute) (old : Attribute) → find (same_attribute a) bs ≡ Some old
    → (cited (tree old.expr) ≡ []) × (cited (tree a.expr) ≡ []) → MovesNone a.name (tree a.expr) (attributes_of bs)
moves_none-found a [] old found plain = tt
moves_none-found a (b ∷ bs) old found plain = (
  λ same.
      let here : Some b ≡ Some old = sym (ap (λ is. cond is (Some b) (find (same_attribute a) bs)) same) ∙ found in
      let is : old ≡ b = cc in
      subst (λ o. (cited (tree o.expr) ≡ []) × (cited (tree a.expr) ≡ [])) is plain,
  λ other. moves_none-found a bs old (sym (ap (λ is. cond is (Some b) (find (same_attribute a) bs)) other) ∙ found) plain,
)

-- nor does a new one
pub moves_none-new : (a : Attribute) (bs : List Attribute) → find (same_attribute a) bs ≡ None → MovesNone a.name (tree a.expr) (attributes_of bs)
moves_none-new a [] none = tt
moves_none-new a (b ∷ bs) none = (
  λ same. absurd (let here : Some b ≡ None = sym (ap (λ is. cond is (Some b) (find (same_attribute a) bs)) same) ∙ none in cc),
  λ other. moves_none-new a bs (sym (ap (λ is. cond is (Some b) (find (same_attribute a) bs)) other) ∙ none),
)

-- names stay apart
names-put_attribute : (name : List ℕ) (t : Tree) (attributes : List (List ℕ × Tree))
    → names_of (put_attribute name t attributes) ≡ put_name name (names_of attributes)
names-put_attribute name t [] = refl
names-put_attribute name t (a ∷ rest) = by (same_name name a.0) (names-put_attribute name t rest)
  where
    by : (here : Bool) → names_of (put_attribute name t rest) ≡ put_name name (names_of rest)
        → names_of (cond here ((name, t) ∷ rest) (a ∷ put_attribute name t rest)) ≡ cond here (name ∷ names_of rest) (a.0 ∷ put_name name (names_of rest))
    by true e = refl
    by false e = ap (λ names. a.0 ∷ names) e

pub apart-put : {A E : Type 0} (r : Result A E) (name : List ℕ) (t : Tree) (old new : List Attribute)
    → OnOk r (attributes_of new ≡ put_attribute name t (attributes_of old)) → OnErr r (new ≡ old)
    → are_apart (names_of (attributes_of old)) ≡ true → are_apart (names_of (attributes_of new)) ≡ true
apart-put (Ok done) name t old new ok err h =
    ap (λ l. are_apart (names_of l)) ok ∙ ap are_apart (names-put_attribute name t (attributes_of old)) ∙ apart-put_name name (names_of (attributes_of old)) h
apart-put (Err e) name t old new ok err h = ap (λ l. are_apart (names_of (attributes_of l))) err ∙ h

-- and there is at most one attribute more
length-put : (name : List ℕ) (t : Tree) (attributes : List (List ℕ × Tree)) → length (put_attribute name t attributes) ≤ suc (length attributes)
length-put name t [] = omega arith
length-put name t (a ∷ rest) = by (same_name name a.0) (length-put name t rest)
  where
    by : (here : Bool) → length (put_attribute name t rest) ≤ suc (length rest)
        → length (cond here ((name, t) ∷ rest) (a ∷ put_attribute name t rest)) ≤ suc (suc (length rest))
    by true h = omega arith
    by false h = omega (arith, h)

pub few-put : {A E : Type 0} (r : Result A E) (name : List ℕ) (t : Tree) (old new : List Attribute)
    → OnOk r (attributes_of new ≡ put_attribute name t (attributes_of old)) → OnErr r (new ≡ old) → length new ≤ suc (length old)
few-put (Ok done) name t old new ok err =
    omega (arith, length-map new attribute_of, length-map old attribute_of, ap (λ l. length l) ok, length-put name t (attributes_of old))
few-put (Err e) name t old new ok err = omega (arith, ap (λ l. length l) err)

-- an attribute is found where its name is
prefix_len-names : (name : List ℕ) (bs : List Attribute)
    → prefix_len (λ b. not (same_name name b.name)) bs ≡ prefix_len (λ n. not (same_name name n)) (names_of (attributes_of bs))
prefix_len-names name [] = refl
prefix_len-names name (b ∷ bs) = ap (λ n. cond (not (same_name name b.name)) (1 + n) 0) (prefix_len-names name bs)

length-names : (bs : List Attribute) → length bs ≡ length (names_of (attributes_of bs))
length-names [] = refl
length-names (b ∷ bs) = ap suc (length-names bs)

pub position-names : (name : List ℕ) (bs : List Attribute) → position (λ b. same_name name b.name) bs ≡ position (same_name name) (names_of (attributes_of bs))
position-names name bs =
    ap (λ n. cond (nat_lt n (length bs)) (Some n) None) (prefix_len-names name bs)
    ∙ ap (λ n. cond (nat_lt (prefix_len (λ m. not (same_name name m)) (names_of (attributes_of bs))) n)
    (Some (prefix_len (λ m. not (same_name name m)) (names_of (attributes_of bs)))) None) (length-names bs)

-- the names of each frame of a list are apart
pub apart-frames : (fs : List AdFrame) (f : ℕ) → IsTrue (are_apart (names_in (frames_of fs) f))
apart-frames [] f = refl
apart-frames (g ∷ gs) zero = g.apart
apart-frames (g ∷ gs) (suc f) = apart-frames gs f
