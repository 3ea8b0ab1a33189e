-- Laws of attributes: defining them in turn, and names that stay apart.
use Rattle.std.proofs.Common.{refl, ◌≡◌, ℕ, List, [], ◌∷◌, ◌++◌, Bool, true, false, not, ◌||◌, ap, sym, ◌∙◌, cond, append_assoc, true≢false}
use Rattle.std.proofs.lemmas.List.{append-nil}
use Rattle.ad_tree.specs.Tree.{Tree}
use Rattle.ad_tree.specs.Names.{same_name, has_name, are_apart}
use Rattle.ad_tree.specs.Frames.{put_attribute, put_all, names_of}
use Rattle.ad_tree.specs.Inline.{Inline, Defs, no_defs, def, put, def_names}
use Rattle.ad_tree.proofs.NameLemmas.{both_left, both_right, both, not_true, neither_left, neither_right, neither, same_name-along, same_name-along_left}

-- names after one is defined
abbrev pub put_name : List ℕ → List (List ℕ) → List (List ℕ)
put_name name [] = name ∷ []
put_name name (other ∷ others) = cond (same_name name other) (name ∷ others) (other ∷ put_name name others)

pub names-put : (name : List ℕ) (i : Inline) (ds : Defs) → def_names (put name i ds) ≡ put_name name (def_names ds)
names-put name i no_defs = refl
names-put name i (def other j ds) = by (same_name name other) (names-put name i ds)
  where
    by : (b : Bool) → def_names (put name i ds) ≡ put_name name (def_names ds)
        → def_names (cond b (def name i ds) (def other j (put name i ds))) ≡ cond b (name ∷ def_names ds) (other ∷ put_name name (def_names ds))
    by true e = refl
    by false e = ap (λ ns. other ∷ ns) e

-- equal names are equal to the same others
pub has_name-along : (a b : List ℕ) (names : List (List ℕ)) → same_name a b ≡ true → has_name a names ≡ has_name b names
has_name-along a b [] h = refl
has_name-along a b (n ∷ ns) h = ap (λ x. x || has_name a ns) (same_name-along a b n h) ∙ ap (λ x. same_name n b || x) (has_name-along a b ns h)

-- a name that is not there stays away, unless it is defined
has_name-put : (m name : List ℕ) (names : List (List ℕ)) → same_name name m ≡ false → has_name m names ≡ false → has_name m (put_name name names) ≡ false
has_name-put m name [] away h = neither _ _ away refl
has_name-put m name (n ∷ ns) away h = by (same_name name n) (has_name-put m name ns away (neither_right _ _ h))
  where
    by : (b : Bool) → has_name m (put_name name ns) ≡ false → has_name m (cond b (name ∷ ns) (n ∷ put_name name ns)) ≡ false
    by true e = neither _ _ away (neither_right _ _ h)
    by false e = neither _ _ (neither_left _ _ h) e

-- names stay apart
pub apart-put_name : (name : List ℕ) (names : List (List ℕ)) → are_apart names ≡ true → are_apart (put_name name names) ≡ true
apart-put_name name [] h = refl
apart-put_name name (n ∷ ns) h = by (same_name name n) refl (apart-put_name name ns (both_right _ _ h))
  where
    by : (b : Bool) → same_name name n ≡ b → are_apart (put_name name ns) ≡ true → are_apart (cond b (name ∷ ns) (n ∷ put_name name ns)) ≡ true
    by true e k = both _ _ (ap not (has_name-along name n ns e) ∙ both_left _ _ h) (both_right _ _ h)
    by false e k = both _ _ (ap not (has_name-put n name ns e (not_true _ (both_left _ _ h)))) k

-- one attribute more at the end
pub put_all-push : (done attributes : List (List ℕ × Tree)) (name : List ℕ) (t : Tree)
    → put_all done (attributes ++ (name, t) ∷ []) ≡ put_attribute name t (put_all done attributes)
put_all-push done [] name t = refl
put_all-push done (a ∷ rest) name t = put_all-push (put_attribute a.0 a.1 done) rest name t

-- a name that is not there goes last
later : (m : List ℕ) (attributes rest : List (List ℕ × Tree)) (a : List ℕ × Tree) → has_name m (names_of (attributes ++ a ∷ rest)) ≡ false
    → same_name a.0 m ≡ false
later m [] rest a h = neither_left _ _ h
later m (b ∷ bs) rest a h = later m bs rest a (neither_right _ _ h)

pub put_attribute-new : (done rest : List (List ℕ × Tree)) (a : List ℕ × Tree) → are_apart (names_of (done ++ a ∷ rest)) ≡ true
    → put_attribute a.0 a.1 done ≡ done ++ a ∷ []
put_attribute-new [] rest a h = refl
put_attribute-new (d ∷ ds) rest a h =
    ap (λ b. cond b ((a.0, a.1) ∷ ds) (d ∷ put_attribute a.0 a.1 ds)) (later d.0 ds rest a (not_true _ (both_left _ _ h)))
    ∙ ap (λ xs. d ∷ xs) (put_attribute-new ds rest a (both_right _ _ h))

-- attributes whose names are apart stay as they are
put_all-apart_from : (done attributes : List (List ℕ × Tree)) → are_apart (names_of (done ++ attributes)) ≡ true → put_all done attributes ≡ done ++ attributes
put_all-apart_from done [] h = sym (append-nil done)
put_all-apart_from done (a ∷ rest) h =
    ap (λ xs. put_all xs rest) (put_attribute-new done rest a h)
    ∙ put_all-apart_from (done ++ a ∷ []) rest (ap (λ xs. are_apart (names_of xs)) (append_assoc done (a ∷ []) rest) ∙ h)
    ∙ append_assoc done (a ∷ []) rest

pub put_all-apart : (attributes : List (List ℕ × Tree)) → are_apart (names_of attributes) ≡ true → put_all [] attributes ≡ attributes
put_all-apart attributes h = put_all-apart_from [] attributes h

-- a name equal to the first of others
same_name-first : (name other : List ℕ) (b : Bool) → (same_name other name || b) ≡ false → same_name name other ≡ false
same_name-first name other b away = by (same_name name other) refl
  where
    by : (c : Bool) → same_name name other ≡ c → same_name name other ≡ false
    by false e = e
    by true e = absurd (true≢false (sym (same_name-along name other other e ∙ sym (same_name-along_left name other other e) ∙ e) ∙ neither_left _ _ away))

-- a name that is there keeps its place
pub put_attribute-known : (name : List ℕ) (t : Tree) (front behind : List (List ℕ × Tree)) (old : List ℕ × Tree)
    → has_name name (names_of front) ≡ false → same_name name old.0 ≡ true
    → put_attribute name t (front ++ old ∷ behind) ≡ front ++ (name, t) ∷ behind
put_attribute-known name t [] behind old away same = ap (λ b. cond b ((name, t) ∷ behind) (old ∷ put_attribute name t behind)) same
put_attribute-known name t (a ∷ front) behind old away same =
    ap (λ b. cond b ((name, t) ∷ (front ++ old ∷ behind)) (a ∷ put_attribute name t (front ++ old ∷ behind))) (same_name-first name a.0 _ away)
    ∙ ap (λ rest. a ∷ rest) (put_attribute-known name t front behind old (neither_right _ _ away) same)

-- a new name goes last
pub put_attribute-unknown : (name : List ℕ) (t : Tree) (attributes : List (List ℕ × Tree)) → has_name name (names_of attributes) ≡ false
    → put_attribute name t attributes ≡ attributes ++ (name, t) ∷ []
put_attribute-unknown name t [] away = refl
put_attribute-unknown name t (a ∷ rest) away =
    ap (λ b. cond b ((name, t) ∷ rest) (a ∷ put_attribute name t rest)) (same_name-first name a.0 _ away)
    ∙ ap (λ more. a ∷ more) (put_attribute-unknown name t rest (neither_right _ _ away))
