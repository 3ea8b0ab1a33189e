-- How the operands of the builder change with each instruction.
use Rattle.std.proofs.Common.{◌≡◌, ℕ, Bool, true, false, List, [], ◌∷◌, ◌++◌, length, map, refl, sym, subst, ap, ◌∙◌}
use Rattle.ad_tree.specs.Frames.{Frame, empty_frame, defined, settled_frame}
use Rattle.ad_tree.specs.Inline.{Inline, Inlines, shape, inner, end, next, Defs, no_defs, def, number, number_all, frames, spelled, spelled_tree, ad_of}
use Rattle.ad_tree.specs.Inline.{phrase_of, phrase_tree}
use Rattle.ad_tree.specs.Placed.{IsPlaced, AreAllPlaced, HasDefined}
use Rattle.ad_tree.specs.Tree.{Label, Tree, Trees, node, frame, none, more, one, two, three, binary, all, any}
use Rattle.ad_tree.proofs.InlineLemmas.{next_last, def_last, more_last}
use Rattle.ad_tree.proofs.PlacedLemmas.{leaf-placed, node-placed, one-placed, next-placed, last-placed, new-defined, next-defined, defined-placed}
use Rattle.ad_tree.proofs.SpellingLemmas.{ad_of-finished, phrase_of-finished}
use Rattle.ad_builder.specs.Machine.{top, below, defined_last, with_element, with_definition}
use Rattle.ad_builder.specs.Shapes.{leaf, over_one, over_two, over_three, followed_by, joined}
use Rattle.ad_builder.specs.declared.instruction.Infix.{Infix}
use Rattle.ad_builder.specs.declared.instruction.Infix.TheVariants as infixes
use Rattle.ad_builder.specs.JoinedTrees.{last_tree, joined_tree, TakesElement}
use Rattle.ad_builder.specs.Laid.{Slot, value, open_ad, Laid}

-- ---- one tree and one definition more

pub followed_by-last : (xs : Inlines) (y : Inline) → followed_by xs y ≡ next_last xs y
followed_by-last end y = refl
followed_by-last (next x xs) y = ap (next x) (followed_by-last xs y)

pub last_tree-last : (ts : Trees) (u : Tree) → last_tree ts u ≡ more_last ts u
last_tree-last none u = refl
last_tree-last (more t ts) u = ap (more t) (last_tree-last ts u)

pub defined_last-last : (ds : Defs) (text : List ℕ) (x : Inline) → defined_last ds text x ≡ def_last ds text x
defined_last-last no_defs text x = refl
defined_last-last (def other y ds) text x = ap (def other y) (defined_last-last ds text x)

-- ---- the placing of nodes

module _ {p : ℕ} where
  one-more : (label : Label) (xs : Inlines) {y : Inline} {ts : Trees} {u : Tree} {before between after : List Frame}
      → AreAllPlaced p xs ts before between → IsPlaced p y u between after
      → IsPlaced p (shape label (followed_by xs y)) (node label (last_tree ts u)) before after
  one-more label xs {y} {ts} {u} {before} {between} {after} h k =
      subst (λ is. IsPlaced p (shape label is) (node label (last_tree ts u)) before after) (sym (followed_by-last xs y))
      (subst (λ us. IsPlaced p (shape label (next_last xs y)) (node label us) before after) (sym (last_tree-last ts u)) (node-placed label (last-placed h k)))

  parts : (label : Label) (xs : Inlines) {before between : List Frame} → IsPlaced p (shape label xs) (number (length before) (shape label xs)) before between
      → AreAllPlaced p xs (number_all (length before) xs) before between
  parts label xs h = record { copied = refl; opened = h.opened }

  two-placed : (label : Label) {x y : Inline} {t u : Tree} {before between after : List Frame}
      → IsPlaced p x t before between → IsPlaced p y u between after → IsPlaced p (over_two label x y) (node label (two t u)) before after
  two-placed label h k = node-placed label (next-placed h (one-placed k))

  joined-numbered : (op : Infix) (x : Inline) {y : Inline} {u : Tree} {before between after : List Frame}
      → IsPlaced p x (number (length before) x) before between → IsPlaced p y u between after
      → IsPlaced p (joined op x y) (joined_tree op (number (length before) x) u) before after
  joined-numbered infixes.And (shape all xs) h k = one-more all xs (parts all xs h) k
  joined-numbered infixes.And (shape label xs) h k = two-placed all h k
  joined-numbered infixes.And (inner ds) h k = two-placed all h k
  joined-numbered infixes.Or (shape any xs) h k = one-more any xs (parts any xs h) k
  joined-numbered infixes.Or (shape label xs) h k = two-placed any h k
  joined-numbered infixes.Or (inner ds) h k = two-placed any h k
  joined-numbered (infixes.Binary op) x h k = two-placed (binary op) h k

  joined-placed : (op : Infix) {x y : Inline} {t u : Tree} {before between after : List Frame}
      → IsPlaced p x t before between → IsPlaced p y u between after → IsPlaced p (joined op x y) (joined_tree op t u) before after
  joined-placed op {x} {y} {t} {u} {before} {between} {after} h k =
      subst (λ w. IsPlaced p (joined op x y) (joined_tree op w u) before after) (sym h.copied)
      (joined-numbered op x (subst (λ w. IsPlaced p x w before between) h.copied h) k)

  element-numbered : (x : Inline) {y : Inline} {u w : Tree} {before between after : List Frame}
      → IsPlaced p x (number (length before) x) before between → IsPlaced p y u between after
      → TakesElement (number (length before) x) u w → IsPlaced p (with_element x y) w before after
  element-numbered (shape label xs) {y} {u} {w} {before} {between} {after} h k e =
      subst (λ v. IsPlaced p (shape label (followed_by xs y)) v before after) (sym e) (one-more label xs (parts label xs h) k)
  element-numbered (inner ds) h k e = absurd e

  element-placed : {x y : Inline} {t u w : Tree} {before between after : List Frame}
      → IsPlaced p x t before between → IsPlaced p y u between after → TakesElement t u w → IsPlaced p (with_element x y) w before after
  element-placed {x} {y} {t} {u} {w} {before} {between} {after} h k e =
      element-numbered x (subst (λ v. IsPlaced p x v before between) h.copied h) k (subst (λ v. TakesElement v u w) h.copied e)

-- ---- the operands after each instruction

module _ (is_ad : Bool) (p : ℕ) (fs : List Frame) where
  pub leaf-laid : (label : Label) (ss : List Slot) (st : List Inline) → Laid is_ad ss p st fs → Laid is_ad (value (node label none) ∷ ss) p (leaf label ∷ st) fs
  leaf-laid label ss st h = (fs, h, leaf-placed label fs)

  pub one-laid : (label : Label) (ss : List Slot) (t : Tree) (st : List Inline) → Laid is_ad (value t ∷ ss) p st fs
      → Laid is_ad (value (node label (one t)) ∷ ss) p (over_one label (top st) ∷ below st) fs
  one-laid label ss t [] h = absurd h
  one-laid label ss t (x ∷ st) h = (h.0, h.1, node-placed label (one-placed h.2))

  pub two-laid : (label : Label) (ss : List Slot) (t u : Tree) (st : List Inline) → Laid is_ad (value u ∷ value t ∷ ss) p st fs
      → Laid is_ad (value (node label (two t u)) ∷ ss) p (over_two label (top (below st)) (top st) ∷ below (below st)) fs
  two-laid label ss t u [] h = absurd h
  two-laid label ss t u (y ∷ []) h = absurd h.1
  two-laid label ss t u (y ∷ x ∷ st) h = (h.1.0, h.1.1, two-placed label h.1.2 h.2)

  pub three-laid : (label : Label) (ss : List Slot) (t u v : Tree) (st : List Inline) → Laid is_ad (value v ∷ value u ∷ value t ∷ ss) p st fs
      → Laid is_ad (value (node label (three t u v)) ∷ ss) p (over_three label (top (below (below st))) (top (below st)) (top st) ∷ below (below (below st))) fs
  three-laid label ss t u v [] h = absurd h
  three-laid label ss t u v (z ∷ []) h = absurd h.1
  three-laid label ss t u v (z ∷ y ∷ []) h = absurd h.1.1
  three-laid label ss t u v (z ∷ y ∷ x ∷ st) h =
      (h.1.1.0, h.1.1.1, node-placed label (next-placed h.1.1.2 (next-placed h.1.2 (one-placed h.2))))

  pub joined-laid : (op : Infix) (ss : List Slot) (t u : Tree) (st : List Inline) → Laid is_ad (value u ∷ value t ∷ ss) p st fs
      → Laid is_ad (value (joined_tree op t u) ∷ ss) p (joined op (top (below st)) (top st) ∷ below (below st)) fs
  joined-laid op ss t u [] h = absurd h
  joined-laid op ss t u (y ∷ []) h = absurd h.1
  joined-laid op ss t u (y ∷ x ∷ st) h = (h.1.0, h.1.1, joined-placed op h.1.2 h.2)

  pub element-laid : (ss : List Slot) (t u w : Tree) (st : List Inline) → TakesElement t u w → Laid is_ad (value u ∷ value t ∷ ss) p st fs
      → Laid is_ad (value w ∷ ss) p (with_element (top (below st)) (top st) ∷ below (below st)) fs
  element-laid ss t u w [] e h = absurd h
  element-laid ss t u w (y ∷ []) e h = absurd h.1
  element-laid ss t u w (y ∷ x ∷ st) e h = (h.1.0, h.1.1, element-placed h.1.2 h.2 e)

  -- an ad literal is opened
  pub open-laid : (ss : List Slot) (n : ℕ) (st : List Inline) {after : List Frame} → n ≡ length fs → after ≡ fs ++ empty_frame p ∷ []
      → Laid is_ad ss p st fs → Laid is_ad (open_ad n p ∷ ss) n (inner no_defs ∷ st) after
  open-laid ss n st at push h = (fs, h, subst (HasDefined p no_defs fs) (sym push) (new-defined p fs), refl, at)

  -- a name is defined
  pub define-laid : (ss : List Slot) (n outer : ℕ) (t : Tree) (name : List ℕ) (st : List Inline) {after : List Frame} → after ≡ defined fs p name t
      → Laid is_ad (value t ∷ open_ad n outer ∷ ss) p st fs
      → Laid is_ad (open_ad n outer ∷ ss) p (with_definition (top (below st)) name (top st) ∷ below (below st)) after
  define-laid ss n outer t name [] e h = absurd h
  define-laid ss n outer t name (x ∷ []) e h = absurd h.1
  define-laid ss n outer t name (x ∷ shape label xs ∷ st) e h = absurd h.1
  define-laid ss n outer t name (x ∷ inner ds ∷ st) {after} e h =
      let here : p ≡ length h.1.0 = h.1.3 ∙ h.1.4 in (
        h.1.0,
        h.1.1,
        subst (λ es. HasDefined outer es h.1.0 after) (sym (defined_last-last ds name x))
            (next-defined name h.1.2 (subst (λ m. IsPlaced m x t h.0 fs) here h.2) (e ∙ ap (λ m. defined fs m name t) here)),
        h.1.3,
        h.1.4,
      )

  -- an ad literal has all its definitions
  pub close-laid : (ss : List Slot) (n outer : ℕ) (st : List Inline) → Laid is_ad (open_ad n outer ∷ ss) p st fs → Laid is_ad (value (frame n) ∷ ss) outer st fs
  close-laid ss n outer [] h = absurd h
  close-laid ss n outer (shape label xs ∷ st) h = absurd h
  close-laid ss n outer (inner ds ∷ st) h =
      (h.0, h.1, subst (λ m. IsPlaced outer (inner ds) (frame m) h.0 fs) (sym h.4) (defined-placed h.2))

-- ---- the end

-- the ad of the root that is open
pub ad-finished : (n outer p : ℕ) (fs : List Frame) (st : List Inline) {result : List Frame} → Laid true (open_ad n outer ∷ []) p st fs
    → result ≡ frames 0 0 (spelled fs) → result ≡ ad_of (top st)
ad-finished n outer p fs [] h r = absurd h
ad-finished n outer p fs (shape label xs ∷ st) h r = absurd h
ad-finished n outer p fs (inner ds ∷ x ∷ st) h r = absurd h.1
ad-finished n outer p fs (inner ds ∷ []) h r =
    let root : HasDefined 0 ds [] fs = subst (λ m. HasDefined m ds [] fs) h.1.0 (subst (λ before. HasDefined outer ds before fs) h.1.1 h.2) in
    r ∙ ad_of-finished ds root.defined

-- an expression that is the only operand
module _ (t : Tree) (p : ℕ) (fs : List Frame) where
  pub alone : (x : Inline) → Laid false (value t ∷ []) p (x ∷ []) fs → IsPlaced 0 x t (empty_frame 0 ∷ []) fs
  alone x h = subst (λ n. IsPlaced n x t (empty_frame 0 ∷ []) fs) h.1.0 (subst (λ before. IsPlaced p x t before fs) h.1.1 h.2)

  numbered : (x : Inline) → Laid false (value t ∷ []) p (x ∷ []) fs → t ≡ number 1 x
  numbered x h = (alone x h).copied

  settled-expression : (x : Inline) → Laid false (value t ∷ []) p (x ∷ []) fs → fs ≡ empty_frame 0 ∷ map settled_frame (frames 0 1 x)
  settled-expression x h = (alone x h).opened

  pub phrase-finished : (st : List Inline) {result : List Frame} → Laid false (value t ∷ []) p st fs → result ≡ empty_frame 0 ∷ frames 0 1 (spelled_tree fs t)
      → result ≡ phrase_of (top st)
  phrase-finished [] h r = absurd h
  phrase-finished (x ∷ y ∷ st) h r = absurd h.1
  phrase-finished (x ∷ []) h r = r ∙ ap (λ u. empty_frame 0 ∷ frames 0 1 (spelled_tree fs u)) (numbered x h) ∙ (phrase_of-finished x (settled-expression x h)).0

  pub phrase_tree-finished : (st : List Inline) {result : Tree} → Laid false (value t ∷ []) p st fs → result ≡ number 1 (spelled_tree fs t)
      → result ≡ phrase_tree (top st)
  phrase_tree-finished [] h r = absurd h
  phrase_tree-finished (x ∷ y ∷ st) h r = absurd h.1
  phrase_tree-finished (x ∷ []) h r = r ∙ ap (λ u. number 1 (spelled_tree fs u)) (numbered x h) ∙ (phrase_of-finished x (settled-expression x h)).1
