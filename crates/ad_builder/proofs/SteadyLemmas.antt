-- Trees that stay steady after each instruction.
use Rattle.std.proofs.Common.{◌≡◌, ℕ, suc, ◌+◌, Bool, true, false, List, [], ◌∷◌, ◌++◌, length, map, drop, cond, refl, sym, subst, ap, ◌∙◌, append_assoc, arith}
use Rattle.std.proofs.lemmas.List.{append-nil, length-map, map-append}
use Rattle.pool_text.specs.declared.language.Lit.TheVariants.{Undefined}
use Rattle.ad_tree.specs.Frames.{Frame, IsAd, attributes_at, attributes_in, empty_frame, put_all, put_attribute, settled_frame}
use Rattle.ad_tree.specs.Inline.{Inline, Inlines, shape, inner, end, next, Defs, no_defs, def, count, count_all, count_defs, number, number_all}
use Rattle.ad_tree.specs.Inline.{attributes_from, frames, frames_all, frames_in, put, settled, settled_all, settled_defs, ad_of, phrase_of, phrase_tree}
use Rattle.ad_tree.specs.Names.{same_name}
use Rattle.ad_tree.specs.Phrases.{IsPhrase}
use Rattle.ad_tree.specs.Placed.{IsPlaced, HasDefined}
use Rattle.ad_tree.specs.Steady.{MovesNone}
use Rattle.ad_tree.specs.Tree.{Label, Tree, Trees, node, more, literal, all, any, choice, list, cited, cited_all}
use Rattle.ad_tree.proofs.AdLemmas.{IsAd-frames, IsAd-phrase}
use Rattle.ad_tree.proofs.AttributeLemmas.{put_all-push}
use Rattle.ad_tree.proofs.FinishLemmas.{numbered_phrase}
use Rattle.ad_tree.proofs.InlineLemmas.{length-frames, next_last, def_last, more_last, number_all-last, attributes_from-last, frames_all-last, frames_in-last}
use Rattle.ad_tree.proofs.SpellingLemmas.{apart-settled, slice_get-behind}
use Rattle.ad_builder.specs.Machine.{top, below, with_element, with_definition}
use Rattle.ad_builder.specs.Shapes.{leaf, over_one, over_two, over_three, followed_by, joined}
use Rattle.ad_builder.specs.Steady.{IsSteady, AreSteady}
use Rattle.ad_builder.specs.declared.instruction.Infix.{Infix}
use Rattle.ad_builder.specs.declared.instruction.Infix.TheVariants as infixes
use Rattle.ad_builder.specs.Laid.{Slot, value, open_ad, Laid}
use Rattle.ad_builder.proofs.LaidLemmas.{followed_by-last, defined_last-last, alone}

steady-count : (x : Inline) → IsSteady x → count (settled x) ≡ count x
steady-count x h =
    sym (length-frames 0 0 (settled x)) ∙ ap length (sym (h.framed 0 0)) ∙ length-map (frames 0 0 x) settled_frame ∙ length-frames 0 0 x

-- ---- nodes

settled_all-last : (xs : Inlines) (y : Inline) → settled_all (next_last xs y) ≡ next_last (settled_all xs) (settled y)
settled_all-last end y = refl
settled_all-last (next x xs) y = ap (next (settled x)) (settled_all-last xs y)

same-trees : (label : Label) (ts us : Trees) → node label ts ≡ node label us → ts ≡ us
same-trees label ts us e = cc

pub leaf-steady : (label : Label) → IsSteady (leaf label)
leaf-steady label = record { framed = λ p b. refl; numbered = λ b. refl }

pub empty-steady : IsSteady (inner no_defs)
empty-steady = record { framed = λ p b. refl; numbered = λ b. refl }

-- a node with one tree more behind its others
longer-steady : (label : Label) (xs : Inlines) (y : Inline) → IsSteady (shape label xs) → IsSteady y → IsSteady (shape label (followed_by xs y))
longer-steady label xs y h k =
    let same : count_all (settled_all xs) ≡ count_all xs = steady-count (shape label xs) h in
    subst (λ zs. IsSteady (shape label zs)) (sym (followed_by-last xs y)) (record {
      framed = λ p b.
          ap (map settled_frame) (frames_all-last p b xs y)
          ∙ map-append settled_frame (frames_all p b xs) (frames p (b + count_all xs) y)
          ∙ ap (λ fs. fs ++ map settled_frame (frames p (b + count_all xs) y)) (h.framed p b)
          ∙ ap (λ fs. frames_all p b (settled_all xs) ++ fs) (k.framed p (b + count_all xs) ∙ ap (λ n. frames p (b + n) (settled y)) (sym same))
          ∙ sym (frames_all-last p b (settled_all xs) (settled y))
          ∙ ap (frames_all p b) (sym (settled_all-last xs y));
      numbered = λ b. ap (node label)
          (number_all-last b xs y
          ∙ ap (λ ts. more_last ts (number (b + count_all xs) y)) (same-trees label _ _ (h.numbered b))
          ∙ ap (more_last (number_all b (settled_all xs))) (k.numbered (b + count_all xs) ∙ ap (λ n. number (b + n) (settled y)) (sym same))
          ∙ sym (number_all-last b (settled_all xs) (settled y))
          ∙ ap (number_all b) (sym (settled_all-last xs y)));
    })

two-over : (label : Label) (x y : Inline) → IsSteady x → IsSteady y → IsSteady (over_two label x y)
two-over label x y h k = longer-steady label (next x end) y (longer-steady label end x (leaf-steady label) h) k

joined-over : (op : Infix) (x y : Inline) → IsSteady x → IsSteady y → IsSteady (joined op x y)
joined-over infixes.And (shape all xs) y h k = longer-steady all xs y h k
joined-over infixes.And (shape label xs) y h k = two-over all (shape label xs) y h k
joined-over infixes.And (inner ds) y h k = two-over all (inner ds) y h k
joined-over infixes.Or (shape any xs) y h k = longer-steady any xs y h k
joined-over infixes.Or (shape label xs) y h k = two-over any (shape label xs) y h k
joined-over infixes.Or (inner ds) y h k = two-over any (inner ds) y h k
joined-over (infixes.Binary op) x y h k = two-over _ x y h k

element-over : (x y : Inline) → IsSteady x → IsSteady y → IsSteady (with_element x y)
element-over (shape label xs) y h k = longer-steady label xs y h k
element-over (inner ds) y h k = two-over list (inner ds) y h k

-- ---- stacks

pub last-steady : (st : List Inline) → AreSteady st → IsSteady (top st) × AreSteady (below st)
last-steady [] h = (leaf-steady (literal Undefined), tt)
last-steady (x ∷ st) h = h

module _ (st : List Inline) (h : AreSteady st) where
  pub one-steady : (label : Label) → AreSteady (over_one label (top st) ∷ below st)
  one-steady label =
      let parts = last-steady st h in
      (longer-steady label end (top st) (leaf-steady label) parts.0, parts.1)

  pub two-steady : (label : Label) → AreSteady (over_two label (top (below st)) (top st) ∷ below (below st))
  two-steady label =
      let right = last-steady st h in
      let left = last-steady (below st) right.1 in
      (two-over label (top (below st)) (top st) left.0 right.0, left.1)

  pub joined-steady : (op : Infix) → AreSteady (joined op (top (below st)) (top st) ∷ below (below st))
  joined-steady op =
      let right = last-steady st h in
      let left = last-steady (below st) right.1 in
      (joined-over op (top (below st)) (top st) left.0 right.0, left.1)

  pub element-steady : AreSteady (with_element (top (below st)) (top st) ∷ below (below st))
  element-steady =
      let right = last-steady st h in
      let left = last-steady (below st) right.1 in
      (element-over (top (below st)) (top st) left.0 right.0, left.1)

  pub three-steady : AreSteady (over_three choice (top (below (below st))) (top (below st)) (top st) ∷ below (below (below st)))
  three-steady =
      let right = last-steady st h in
      let middle = last-steady (below st) right.1 in
      let left = last-steady (below (below st)) middle.1 in (
        longer-steady choice (next (top (below (below st))) (next (top (below st)) end)) (top st)
            (two-over choice (top (below (below st))) (top (below st)) left.0 middle.0) right.0,
        left.1,
      )

-- ---- trees without ad literals

mutual
  number-plain : (b c : ℕ) (i : Inline) → count i ≡ 0 → number b i ≡ number c i
  number-plain b c (shape label is) h = ap (node label) (number_all-plain b c is h)
  number-plain b c (inner ds) h = absurd (cc)

  number_all-plain : (b c : ℕ) (is : Inlines) → count_all is ≡ 0 → number_all b is ≡ number_all c is
  number_all-plain b c end h = refl
  number_all-plain b c (next i is) h =
      ap (λ t. more t (number_all (b + count i) is)) (number-plain b c i (omega (arith, h)))
      ∙ ap (more (number c i)) (number_all-plain (b + count i) (c + count i) is (omega (arith, h)))

frames-plain : (p b : ℕ) (i : Inline) → count i ≡ 0 → frames p b i ≡ []
frames-plain p b i h = none (frames p b i) (length-frames p b i ∙ h)
  where
    none : (fs : List Frame) → length fs ≡ 0 → fs ≡ []
    none [] e = refl
    none (f ∷ fs) e = absurd (cc)

nothing-cited : (xs ys : List ℕ) → xs ++ ys ≡ [] → (xs ≡ []) × (ys ≡ [])
nothing-cited [] ys h = (refl, h)
nothing-cited (x ∷ xs) ys h = absurd (cc)

mutual
  plain-count : (b : ℕ) (i : Inline) → cited (number b i) ≡ [] → count i ≡ 0
  plain-count b (shape label is) h = plain-count_all b is h
  plain-count b (inner ds) h = absurd (cc)

  plain-count_all : (b : ℕ) (is : Inlines) → cited_all (number_all b is) ≡ [] → count_all is ≡ 0
  plain-count_all b end h = refl
  plain-count_all b (next i is) h =
      let parts = nothing-cited (cited (number b i)) (cited_all (number_all (b + count i) is)) h in
      omega (arith, plain-count b i parts.0, plain-count_all (b + count i) is parts.1)

-- ---- definitions

-- a definition that moves no ad literal, among definitions
abbrev KeepsPlaces : List ℕ → Inline → Defs → Type 0
KeepsPlaces name y no_defs = Unit {0}
KeepsPlaces name y (def other j ds) =
    (same_name name other ≡ true → (count j ≡ 0) × (count y ≡ 0)) × (same_name name other ≡ false → KeepsPlaces name y ds)

module _ (name : List ℕ) (y : Inline) where
  keeps-from : (c e : ℕ) (ds : Defs) → MovesNone name (number e y) (attributes_from c ds) → KeepsPlaces name y ds
  keeps-from c e no_defs h = tt
  keeps-from c e (def other j ds) h = (
    λ same. let plain = h.0 same in (plain-count c j plain.0, plain-count e y plain.1),
    λ different. keeps-from (c + count j) e ds (h.1 different),
  )

  regroup : (a b c : ℕ) → (a + b) + c ≡ a + (b + c)
  regroup a b c = omega arith

  attributes-put : (c : ℕ) (ds : Defs) → KeepsPlaces name y ds
      → attributes_from c (put name y ds) ≡ put_attribute name (number (c + count_defs ds) y) (attributes_from c ds)
  attributes-put c no_defs keeps = ap (λ n. (name, number n y) ∷ []) at_start
    where
      at_start : c ≡ c + 0
      at_start = omega arith
  attributes-put c (def other j ds) keeps = by (same_name name other) refl (λ k. attributes-put (c + count j) ds k)
    where
      t : Tree
      t = number (c + (count j + count_defs ds)) y

      by : (b : Bool) → same_name name other ≡ b
          → (KeepsPlaces name y ds → attributes_from (c + count j) (put name y ds)
          ≡ put_attribute name (number ((c + count j) + count_defs ds) y) (attributes_from (c + count j) ds))
          → attributes_from c (cond b (def name y ds) (def other j (put name y ds)))
          ≡ cond b ((name, t) ∷ attributes_from (c + count j) ds) ((other, number c j) ∷ put_attribute name t (attributes_from (c + count j) ds))
      by true e behind =
          let plain = keeps.0 e in
          ap (λ u. (name, u) ∷ attributes_from (c + count y) ds) (number-plain c (c + (count j + count_defs ds)) y plain.1)
          ∙ ap (λ n. (name, t) ∷ attributes_from (c + n) ds) (plain.1 ∙ sym plain.0)
      by false e behind =
          ap (λ rest. (other, number c j) ∷ rest) (behind (keeps.1 e)
          ∙ ap (λ n. put_attribute name (number n y) (attributes_from (c + count j) ds)) (regroup c (count j) (count_defs ds)))

  frames-put : (p c : ℕ) (ds : Defs) → KeepsPlaces name y ds → frames_in p c (put name y ds) ≡ frames_in p c ds ++ frames p (c + count_defs ds) y
  frames-put p c no_defs keeps = append-nil (frames p c y) ∙ ap (λ n. frames p n y) at_start
    where
      at_start : c ≡ c + 0
      at_start = omega arith
  frames-put p c (def other j ds) keeps = by (same_name name other) refl (λ k. frames-put p (c + count j) ds k)
    where
      e : ℕ
      e = c + (count j + count_defs ds)

      rest : List Frame
      rest = frames_in p (c + count j) ds

      by : (b : Bool) → same_name name other ≡ b
          → (KeepsPlaces name y ds → frames_in p (c + count j) (put name y ds) ≡ rest ++ frames p ((c + count j) + count_defs ds) y)
          → frames_in p c (cond b (def name y ds) (def other j (put name y ds))) ≡ (frames p c j ++ rest) ++ frames p e y
      by true same behind =
          let plain = keeps.0 same in
          ap (λ fs. fs ++ frames_in p (c + count y) ds) (frames-plain p c y plain.1)
          ∙ ap (λ n. frames_in p (c + n) ds) (plain.1 ∙ sym plain.0)
          ∙ sym (append-nil rest)
          ∙ ap (λ fs. rest ++ fs) (sym (frames-plain p e y plain.1))
          ∙ ap (λ fs. (fs ++ rest) ++ frames p e y) (sym (frames-plain p c j plain.0))
      by false different behind =
          ap (λ fs. frames p c j ++ fs) (behind (keeps.1 different)
          ∙ ap (λ n. rest ++ frames p n y) (regroup c (count j) (count_defs ds)))
          ∙ sym (append_assoc (frames p c j) rest (frames p e y))

settled_defs-last : (done ds : Defs) (name : List ℕ) (x : Inline) → settled_defs done (def_last ds name x) ≡ put name (settled x) (settled_defs done ds)
settled_defs-last done no_defs name x = refl
settled_defs-last done (def other j ds) name x = settled_defs-last (put other (settled j) done) ds name x

-- the attributes of a steady ad literal
attributes-steady : (ds : Defs) (b : ℕ) → IsSteady (inner ds) → put_all [] (attributes_from (suc b) ds) ≡ attributes_from (suc b) (settled_defs no_defs ds)
attributes-steady ds b h = ap (λ fs. attributes_at fs 0) (h.framed 0 b)

-- an ad literal with one definition more
define-steady : (ds : Defs) (name : List ℕ) (x : Inline) (c e : ℕ) → IsSteady (inner ds) → IsSteady x
    → MovesNone name (number e (settled x)) (attributes_from c (settled_defs no_defs ds)) → IsSteady (inner (def_last ds name x))
define-steady ds name x c e h k moves = record { framed = framed; numbered = λ b. refl }
  where
    es : Defs
    es = settled_defs no_defs ds

    y : Inline
    y = settled x

    keeps : KeepsPlaces name y es
    keeps = keeps-from name y c e es moves

    same : count_defs ds ≡ count_defs es
    same = omega (arith, steady-count (inner ds) h)

    attributes : (b : ℕ) → put_all [] (attributes_from (suc b) (def_last ds name x)) ≡ attributes_from (suc b) (put name y es)
    attributes b =
        let m : ℕ = suc b + count_defs ds in
        ap (put_all []) (attributes_from-last (suc b) ds name x)
        ∙ put_all-push [] (attributes_from (suc b) ds) name (number m x)
        ∙ ap (put_attribute name (number m x)) (attributes-steady ds b h)
        ∙ ap (λ u. put_attribute name u (attributes_from (suc b) es)) (k.numbered m ∙ ap (λ n. number (suc b + n) y) same)
        ∙ sym (attributes-put name y (suc b) es keeps)

    inner_frames : (b : ℕ) → map settled_frame (frames_in b (suc b) (def_last ds name x)) ≡ frames_in b (suc b) (put name y es)
    inner_frames b =
        let m : ℕ = suc b + count_defs ds in
        ap (map settled_frame) (frames_in-last b (suc b) ds name x)
        ∙ map-append settled_frame (frames_in b (suc b) ds) (frames b m x)
        ∙ ap (λ fs. fs ++ map settled_frame (frames b m x)) (ap (drop 1) (h.framed 0 b))
        ∙ ap (λ fs. frames_in b (suc b) es ++ fs) (k.framed b m ∙ ap (λ n. frames b (suc b + n) y) same)
        ∙ sym (frames-put name y b (suc b) es keeps)

    framed : (p b : ℕ) → map settled_frame (frames p b (inner (def_last ds name x))) ≡ frames p b (settled (inner (def_last ds name x)))
    framed p b =
        ap (λ given. record { parent = p; attributes = given } ∷ map settled_frame (frames_in b (suc b) (def_last ds name x))) (attributes b)
        ∙ ap (λ fs. record { parent = p; attributes = attributes_from (suc b) (put name y es) } ∷ fs) (inner_frames b)
        ∙ ap (λ ds. frames p b (inner ds)) (sym (settled_defs-last no_defs ds name x))

-- ---- operands

-- the attributes of a frame behind others
attributes-behind : (before rest : List Frame) (f : Frame) {fs : List Frame} {p : ℕ} → fs ≡ before ++ f ∷ rest → p ≡ length before
    → attributes_at fs p ≡ f.attributes
attributes-behind before rest f {fs} {p} is at =
    ap (λ gs. attributes_at gs p) is ∙ ap (attributes_at (before ++ f ∷ rest)) at ∙ ap attributes_in (slice_get-behind before rest f)

-- a name is defined as the last tree in the ad literal below it
defined-steady : {p outer : ℕ} (ds : Defs) (name : List ℕ) (x : Inline) (t : Tree) {before between fs : List Frame} → p ≡ length before
    → HasDefined outer ds before between → IsPlaced p x t between fs → MovesNone name t (attributes_at fs p) → IsSteady (inner ds) → IsSteady x
    → IsSteady (inner (def_last ds name x))
defined-steady {p} {outer} ds name x t {before} {between} {fs} at h k moves here there =
    let b : ℕ = length before in
    let own : Frame = settled_frame (record { parent = outer; attributes = attributes_from (suc b) ds }) in
    let rest : List Frame = map settled_frame (frames_in b (suc b) ds) in
    let new : List Frame = map settled_frame (frames p (length between) x) in
    let is : fs ≡ before ++ own ∷ (rest ++ new) = k.opened ∙ ap (λ gs. gs ++ new) h.defined ∙ append_assoc before (own ∷ rest) new in
    define-steady ds name x (suc b) (length between) here there
    (subst (λ u. MovesNone name u (attributes_from (suc b) (settled_defs no_defs ds))) (k.copied ∙ there.numbered (length between))
    (subst (MovesNone name t) (attributes-behind before (rest ++ new) own is at ∙ attributes-steady ds b here) moves))

module _ (is_ad : Bool) (p : ℕ) (fs : List Frame) (ss : List Slot) (n outer : ℕ) (t : Tree) (name : List ℕ)
    (moves : MovesNone name t (attributes_at fs p)) where
  pub definition-steady : (st : List Inline) → Laid is_ad (value t ∷ open_ad n outer ∷ ss) p st fs → AreSteady st
      → AreSteady (with_definition (top (below st)) name (top st) ∷ below (below st))
  definition-steady [] h steady = absurd h
  definition-steady (x ∷ []) h steady = absurd h.1
  definition-steady (x ∷ shape label xs ∷ st) h steady = absurd h.1
  definition-steady (x ∷ inner ds ∷ st) h steady = (
    subst (λ es. IsSteady (inner es)) (sym (defined_last-last ds name x))
        (defined-steady ds name x t (h.1.3 ∙ h.1.4) h.1.2 h.2 moves steady.1.0 steady.0),
    steady.1.1,
  )

-- ---- the end

-- the frames of a steady ad literal that is open and alone are those of its ad
pub ad-steady : (n outer p : ℕ) (fs : List Frame) (st : List Inline) → Laid true (open_ad n outer ∷ []) p st fs → AreSteady st → (fs ≡ ad_of (top st)) × IsAd fs
ad-steady n outer p fs [] h steady = absurd h
ad-steady n outer p fs (shape label xs ∷ st) h steady = absurd h
ad-steady n outer p fs (inner ds ∷ x ∷ st) h steady = absurd h.1
ad-steady n outer p fs (inner ds ∷ []) h steady =
    let root : HasDefined 0 ds [] fs = subst (λ m. HasDefined m ds [] fs) h.1.0 (subst (λ before. HasDefined outer ds before fs) h.1.1 h.2) in
    let same : fs ≡ ad_of (inner ds) = root.defined ∙ steady.0.framed 0 0 in
    (same, subst IsAd (sym same) (IsAd-frames (settled_defs no_defs ds) (apart-settled (inner ds))))

-- what is known of the frames and of a steady tree that stands alone
pub record IsWhole (x : Inline) (fs : List Frame) (t : Tree) : Type 0 where
  pub framed : fs ≡ phrase_of x
  pub numbered : t ≡ phrase_tree x
  pub is_ad : IsAd fs
  pub is_phrase : IsPhrase fs t

pub phrase-steady : (t : Tree) (p : ℕ) (fs : List Frame) (st : List Inline) → Laid false (value t ∷ []) p st fs → AreSteady st → IsWhole (top st) fs t
phrase-steady t p fs [] h steady = absurd h
phrase-steady t p fs (x ∷ y ∷ st) h steady = absurd h.1
phrase-steady t p fs (x ∷ []) h steady =
    let placed = alone t p fs x h in
    let framed : fs ≡ phrase_of x = placed.opened ∙ ap (λ gs. empty_frame 0 ∷ gs) (steady.0.framed 0 1) in
    let numbered : t ≡ phrase_tree x = placed.copied ∙ steady.0.numbered 1 in
    record {
      framed = framed;
      numbered = numbered;
      is_ad = subst IsAd (sym framed) (IsAd-phrase (settled x) (apart-settled x));
      is_phrase = numbered_phrase (settled x) framed numbered;
    }
