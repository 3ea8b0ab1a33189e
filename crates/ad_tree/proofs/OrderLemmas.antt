-- The steps of the walk that finds a draft in order: the frames of the draft stand for their own copies.
use Rattle.std.proofs.Common.{refl, arith, ◌≡◌, ◌-◌, ℕ, zero, suc, ◌+◌, List, [], ◌∷◌, ◌++◌, length, true, drop, take, ap, sym, ◌∙◌, subst, Option, None, Some}
use Rattle.std.proofs.Common.{IfSome, IsTrue, slice_get}
use Rattle.std.proofs.lemmas.List.{take_all, length-take-le}
use Rattle.std.proofs.lemmas.Option.{slice_get_within}
use Rattle.ad_tree.specs.Tree.{Tree, frame, pack}
use Rattle.ad_tree.specs.Names.{are_apart}
use Rattle.ad_tree.specs.Frames.{Frame, names_of, names_in, put_attribute}
use Rattle.ad_tree.specs.Inline.{inner, Defs, frames, number, inlined, inlined_all, defs_of, inside, opened, spelled, spelled_tree}
use Rattle.ad_tree.specs.Placed.{IsPlaced, AreAllPlaced, AreDefinitionsPlaced}
use Rattle.ad_tree.proofs.AttributeLemmas.{put_attribute-new}
use Rattle.ad_tree.proofs.FinishLemmas.{finished, finished_phrase, phrase_tree}
use Rattle.ad_tree.proofs.PlacedLemmas.{own-placed}
use Rattle.ad_tree.proofs.WalkLemmas.{take-next, list-placed, defs-placed, inside-turn}

-- what a Some tells, told on
pub if_some : {A : Type 0} (o : Option A) {P Q : A → Type 0} → ((a : A) → P a → Q a) → IfSome o P → IfSome o Q
if_some None f h = h
if_some (Some a) f h = f a h

-- one tree of a list more is in order
pub list-in_order : {p : ℕ} (k : ℕ → Defs) (ts : List Tree) (j : ℕ) (t : Tree) {before between after : List Frame}
    → slice_get ts j ≡ Some t
    → AreAllPlaced p (inlined_all k (pack (take j ts))) (pack (take j ts)) before between → IsPlaced p (inlined k t) t between after
    → AreAllPlaced p (inlined_all k (pack (take (j + 1) ts))) (pack (take (j + 1) ts)) before after
list-in_order k ts j t at h one = list-placed k ts j t (take j ts) (take (j + 1) ts) t at (take-next ts j t at) h one

-- what a list is made of, at a place
split-at : {A : Type 0} (xs : List A) (j : ℕ) (x : A) → slice_get xs j ≡ Some x → take j xs ++ x ∷ drop (suc j) xs ≡ xs
split-at [] j x h = absurd (cc)
split-at (y ∷ ys) zero x h = let same : y ≡ x = cc in ap (λ z. z ∷ ys) (sym same)
split-at (y ∷ ys) (suc j) x h = ap (λ zs. y ∷ zs) (split-at ys j x h)

-- the next of attributes whose names are apart is defined behind the others
put-next : (attributes : List (List ℕ × Tree)) (j : ℕ) (name : List ℕ) (t : Tree) → are_apart (names_of attributes) ≡ true
    → slice_get attributes j ≡ Some (name, t)
    → take (j + 1) attributes ≡ put_attribute name t (take j attributes)
put-next attributes j name t apart at =
    take-next attributes j (name, t) at
    ∙ sym (put_attribute-new (take j attributes) (drop (suc j) attributes) (name, t)
    (ap (λ as_split. are_apart (names_of as_split)) (split-at attributes j (name, t) at) ∙ apart))

-- one definition of a frame more is in order
pub defs-in_order : {parent p : ℕ} (k : ℕ → Defs) (attributes : List (List ℕ × Tree)) (j : ℕ) (name : List ℕ) (t : Tree) {before between after : List Frame}
    → are_apart (names_of attributes) ≡ true → slice_get attributes j ≡ Some (name, t)
    → AreDefinitionsPlaced parent p (defs_of k (take j attributes)) (record { parent = parent; attributes = take j attributes }) before between
    → IsPlaced p (inlined k t) t between after
    → AreDefinitionsPlaced parent p (defs_of k (take (j + 1) attributes)) (record { parent = parent; attributes = take (j + 1) attributes }) before after
defs-in_order {parent} k attributes j name t apart at h one =
    defs-placed k attributes j name t (record { parent = parent; attributes = take j attributes })
    (record { parent = parent; attributes = take (j + 1) attributes }) t at
    (ap (λ as_put. record { parent = parent; attributes = as_put }) (put-next attributes j name t apart at)) h one

-- a frame whose definitions are in order behind it
pub frame-in_order : (fs : List Frame) (turns parent n next : ℕ) (source : Frame) {after : List Frame}
    → (turns ≡ 0 → ⊥) → n ≡ next → Some source ≡ slice_get fs n → source.parent ≡ parent
    → AreDefinitionsPlaced source.parent n (defs_of (inside fs (turns - 1)) source.attributes) source (take (n + 1) fs) after
    → IsPlaced parent (opened fs turns n) (frame n) (take next fs) after
frame-in_order fs turns parent n next source {after} left here found same h =
    let ds : Defs = defs_of (inside fs (turns - 1)) source.attributes in
    let at : slice_get fs n ≡ Some source = sym found in
    let many : length (take n fs) ≡ n = length-take-le n fs (omega (arith, slice_get_within fs n source at)) in
    subst (λ k. IsPlaced parent (opened fs turns n) (frame n) (take k fs) after) here
    (subst (λ p. IsPlaced p (opened fs turns n) (frame n) (take n fs) after) same
    (subst (λ es. IsPlaced source.parent (inner es) (frame n) (take n fs) after) (sym (inside-turn fs turns n source left found))
    (subst (λ m. IsPlaced source.parent (inner ds) (frame m) (take n fs) after) many
    (own-placed
    (subst (λ m. AreDefinitionsPlaced source.parent m ds source (take n fs ++ source ∷ []) after) (sym many)
    (subst (λ gs. AreDefinitionsPlaced source.parent n ds source gs after) (take-next fs n source at) h))))))

-- ---- a draft in order ----

module _ (fs : List Frame) (apart : (f : ℕ) → IsTrue (are_apart (names_in fs f))) (n : ℕ) (all : n ≡ length fs) where
  -- what a walk tells that came behind the last frame
  at-end : (P : List Frame → Type 0) {o : Option ℕ} → o ≡ Some (length fs) → IfSome o (λ m. P (take m fs)) → P fs
  at-end P ends h = subst P (take_all (length fs) fs (omega arith)) (subst (λ o. IfSome o (λ m. P (take m fs))) ends h)

  -- from the root
  pub draft-in_order : (o : Option ℕ) → o ≡ Some (length fs) → IfSome o (λ m. IsPlaced 0 (opened fs n 0) (frame 0) (take 0 fs) (take m fs))
      → fs ≡ frames 0 0 (spelled fs)
  draft-in_order o ends h = finished fs apart n all refl (at-end (IsPlaced 0 (opened fs n 0) (frame 0) (take 0 fs)) ends h)

  -- from behind the root
  pub phrase-in_order : (t : Tree) {root : Frame} {rest : List Frame} → fs ≡ root ∷ rest
      → (o : Option ℕ) → o ≡ Some (length fs) → IfSome o (λ m. IsPlaced 0 (inlined (inside fs n) t) t (take 1 fs) (take m fs))
      → (rest ≡ frames 0 1 (spelled_tree fs t)) × (t ≡ number 1 (spelled_tree fs t))
  phrase-in_order t {root} {rest} e o ends h =
      let first : take 1 fs ≡ root ∷ [] = ap (take 1) e in
      let placed = at-end (IsPlaced 0 (inlined (inside fs n) t) t (take 1 fs)) ends h in
      (ap (drop 1) (sym e ∙ finished_phrase fs apart n all t first placed), phrase_tree fs apart n all t first placed)
