-- How copies of parts make up the copy of a whole, for whatever walks over a tree and fills an ad.
use Rattle.std.proofs.Common.{refl, arith, ◌≡◌, ◌≤◌, ℕ, suc, ◌+◌, List, [], ◌∷◌, ◌++◌, length, map, ap, sym, ◌∙◌, subst, length-append, append_assoc}
use Rattle.std.proofs.lemmas.List.{append-nil, map-append, length-map}
use Rattle.ad_tree.specs.Tree.{Label, Tree, node, frame, Trees, none, more}
use Rattle.ad_tree.specs.Frames.{Frame, empty_frame, defined_in, defined, put_attribute, put_all, settled_frame}
use Rattle.ad_tree.specs.Inline.{Inline, shape, inner, Inlines, end, next, Defs, no_defs, count, count_all, count_defs, number, number_all, attributes_from}
use Rattle.ad_tree.specs.Inline.{frames, frames_all, frames_in, inlined, inlined_all}
use Rattle.ad_tree.specs.Placed.{IsPlaced, AreAllPlaced, AreDefinitionsPlaced, HasDefined}
use Rattle.ad_tree.proofs.AttributeLemmas.{put_all-push}
use Rattle.ad_tree.proofs.InlineLemmas.{length-frames, length-frames_all, length-frames_in, more_last, next_last, def_last, number_all-last}
use Rattle.ad_tree.proofs.InlineLemmas.{attributes_from-last, frames_all-last, frames_in-last}

module _ {p : ℕ} where
  -- how many frames stand after a copy
  pub length-placed : {i : Inline} {t : Tree} {before after : List Frame} → IsPlaced p i t before after → length after ≡ length before + count i
  length-placed {i} {t} {before} {after} h =
      ap length h.opened ∙ length-append before (map settled_frame (frames p (length before) i))
      ∙ ap (λ n. length before + n) (length-map (frames p (length before) i) settled_frame ∙ length-frames p (length before) i)

  pub longer-placed : {i : Inline} {t : Tree} {before after : List Frame} → IsPlaced p i t before after → length before ≤ length after
  longer-placed h = omega (arith, length-placed h)

  pub length-all_placed : {is : Inlines} {ts : Trees} {before after : List Frame} → AreAllPlaced p is ts before after
      → length after ≡ length before + count_all is
  length-all_placed {is} {ts} {before} {after} h =
      ap length h.opened ∙ length-append before (map settled_frame (frames_all p (length before) is))
      ∙ ap (λ n. length before + n) (length-map (frames_all p (length before) is) settled_frame ∙ length-frames_all p (length before) is)

  -- no trees
  pub none-placed : (before : List Frame) → AreAllPlaced p end none before before
  none-placed before = record { copied = refl; opened = sym (append-nil before) }

  -- one tree after others
  pub last-placed : {is : Inlines} {ts : Trees} {i : Inline} {t : Tree} {before between after : List Frame}
      → AreAllPlaced p is ts before between → IsPlaced p i t between after → AreAllPlaced p (next_last is i) (more_last ts t) before after
  last-placed {is} {ts} {i} {t} {before} {between} {after} h k = record {
    copied = ap (λ us. more_last us t) h.copied
        ∙ ap (more_last (number_all (length before) is)) (k.copied ∙ ap (λ n. number n i) (length-all_placed h))
        ∙ sym (number_all-last (length before) is i);
    opened = k.opened
        ∙ ap (λ n. between ++ map settled_frame (frames p n i)) (length-all_placed h)
        ∙ ap (λ fs. fs ++ map settled_frame (frames p (length before + count_all is) i)) h.opened
        ∙ append_assoc before (map settled_frame (frames_all p (length before) is)) (map settled_frame (frames p (length before + count_all is) i))
        ∙ ap (λ fs. before ++ fs) (sym (map-append settled_frame (frames_all p (length before) is) (frames p (length before + count_all is) i))
        ∙ ap (map settled_frame) (sym (frames_all-last p (length before) is i)));
  }

  -- one tree before others
  pub next-placed : {i : Inline} {t : Tree} {is : Inlines} {ts : Trees} {before between after : List Frame}
      → IsPlaced p i t before between → AreAllPlaced p is ts between after → AreAllPlaced p (next i is) (more t ts) before after
  next-placed {i} {t} {is} {ts} {before} {between} {after} h k = record {
    copied = ap (λ u. more u ts) h.copied
        ∙ ap (more (number (length before) i)) (k.copied ∙ ap (λ n. number_all n is) (length-placed h));
    opened = k.opened
        ∙ ap (λ n. between ++ map settled_frame (frames_all p n is)) (length-placed h)
        ∙ ap (λ fs. fs ++ map settled_frame (frames_all p (length before + count i) is)) h.opened
        ∙ append_assoc before (map settled_frame (frames p (length before) i)) (map settled_frame (frames_all p (length before + count i) is))
        ∙ ap (λ fs. before ++ fs) (sym (map-append settled_frame (frames p (length before) i) (frames_all p (length before + count i) is)));
  }

  -- a node over its trees
  pub node-placed : (label : Label) {is : Inlines} {ts : Trees} {before after : List Frame} → AreAllPlaced p is ts before after
      → IsPlaced p (shape label is) (node label ts) before after
  node-placed label h = record { copied = ap (node label) h.copied; opened = h.opened }

  -- a leaf
  pub leaf-placed : (label : Label) (before : List Frame) → IsPlaced p (shape label end) (node label none) before before
  leaf-placed label before = node-placed label (none-placed before)

  -- one and two trees
  pub one-placed : {i : Inline} {t : Tree} {before after : List Frame} → IsPlaced p i t before after → AreAllPlaced p (next i end) (more t none) before after
  one-placed {i} {t} {before} {after} h = next-placed h (none-placed after)

module _ {parent p : ℕ} where
  -- no definitions
  pub length-defs_placed : {ds : Defs} {f : Frame} {before after : List Frame} → AreDefinitionsPlaced parent p ds f before after
      → length after ≡ length before + count_defs ds
  length-defs_placed {ds} {f} {before} {after} h =
      ap length h.opened ∙ length-append before (map settled_frame (frames_in p (length before) ds))
      ∙ ap (λ n. length before + n) (length-map (frames_in p (length before) ds) settled_frame ∙ length-frames_in p (length before) ds)

  -- one definition after others
  pub def-placed : {ds : Defs} {f : Frame} (name : List ℕ) {i : Inline} {t : Tree} {before between after : List Frame}
      → AreDefinitionsPlaced parent p ds f before between → IsPlaced p i t between after
      → AreDefinitionsPlaced parent p (def_last ds name i) (defined_in f name t) before after
  def-placed {ds} {f} name {i} {t} {before} {between} {after} h k = record {
    copied = ap (λ g. defined_in g name t) h.copied
        ∙ ap (λ u. defined_in (settled_frame (record { parent = parent; attributes = attributes_from (length before) ds })) name u)
        (k.copied ∙ ap (λ n. number n i) (length-defs_placed h))
        ∙ ap (λ attributes. record { parent = parent; attributes = attributes })
        (sym (put_all-push [] (attributes_from (length before) ds) name (number (length before + count_defs ds) i))
        ∙ ap (put_all []) (sym (attributes_from-last (length before) ds name i)));
    opened = k.opened
        ∙ ap (λ n. between ++ map settled_frame (frames p n i)) (length-defs_placed h)
        ∙ ap (λ fs. fs ++ map settled_frame (frames p (length before + count_defs ds) i)) h.opened
        ∙ append_assoc before (map settled_frame (frames_in p (length before) ds)) (map settled_frame (frames p (length before + count_defs ds) i))
        ∙ ap (λ fs. before ++ fs) (sym (map-append settled_frame (frames_in p (length before) ds) (frames p (length before + count_defs ds) i))
        ∙ ap (map settled_frame) (sym (frames_in-last p (length before) ds name i)));
  }

-- a new frame with no definitions
pub empty-placed : (parent : ℕ) (before : List Frame) → IsPlaced parent (inner no_defs) (frame (length before)) before (before ++ empty_frame parent ∷ [])
empty-placed parent before = record { copied = refl; opened = refl }

-- a frame that stands there with its definitions, which are placed behind it
pub own-placed : {ds : Defs} {f : Frame} {before after : List Frame}
    → AreDefinitionsPlaced f.parent (length before) ds f (before ++ f ∷ []) after → IsPlaced f.parent (inner ds) (frame (length before)) before after
own-placed {ds} {f} {before} {after} h = record {
  copied = refl;
  opened = h.opened
      ∙ append_assoc before (f ∷ []) (map settled_frame (frames_in (length before) (length (before ++ f ∷ [])) ds))
      ∙ ap (λ g. before ++ g ∷ map settled_frame (frames_in (length before) (length (before ++ f ∷ [])) ds)) h.copied
      ∙ ap (λ n. before ++ settled_frame (record { parent = f.parent; attributes = attributes_from n ds }) ∷ map settled_frame (frames_in (length before) n ds))
      longer;
}
  where
    longer : length (before ++ f ∷ []) ≡ suc (length before)
    longer = omega (arith, length-append before (f ∷ []))

-- ---- a draft whose frames are defined one after another ----

-- a definition in the frame behind those that were there
defined-behind : (before after : List Frame) (f : Frame) (name : List ℕ) (t : Tree)
    → defined (before ++ f ∷ after) (length before) name t ≡ before ++ defined_in f name t ∷ after
defined-behind [] after f name t = refl
defined-behind (b ∷ bs) after f name t = ap (λ fs. b ∷ fs) (defined-behind bs after f name t)

-- a new frame has no definitions
pub new-defined : (parent : ℕ) (before : List Frame) → HasDefined parent no_defs before (before ++ empty_frame parent ∷ [])
new-defined parent before = record { defined = refl }

-- how many frames stand then
length-defined : {parent : ℕ} {ds : Defs} {before after : List Frame} → HasDefined parent ds before after → length after ≡ suc (length before) + count_defs ds
length-defined {parent} {ds} {before} {after} h =
    let own : Frame = settled_frame (record { parent = parent; attributes = attributes_from (suc (length before)) ds }) in
    let rest : List Frame = map settled_frame (frames_in (length before) (suc (length before)) ds) in
    let many : length rest ≡ count_defs ds =
    length-map (frames_in (length before) (suc (length before)) ds) settled_frame ∙ length-frames_in (length before) (suc (length before)) ds in
    omega (arith, ap length h.defined, length-append before (own ∷ rest), many)

-- one definition more, once its expression is placed
pub next-defined : {parent : ℕ} {ds : Defs} (name : List ℕ) {i : Inline} {t : Tree} {before between placed after : List Frame}
    → HasDefined parent ds before between → IsPlaced (length before) i t between placed → after ≡ defined placed (length before) name t
    → HasDefined parent (def_last ds name i) before after
next-defined {parent} {ds} name {i} {t} {before} {between} {placed} {after} h k e =
    let b : ℕ = suc (length before) in
    let own : Frame = settled_frame (record { parent = parent; attributes = attributes_from b ds }) in
    let rest : List Frame = map settled_frame (frames_in (length before) b ds) in
    let new : List Frame = map settled_frame (frames (length before) (length between) i) in
    let here : placed ≡ before ++ own ∷ (rest ++ new) = k.opened ∙ ap (λ fs. fs ++ new) h.defined ∙ append_assoc before (own ∷ rest) new in
    let copy : t ≡ number (b + count_defs ds) i = k.copied ∙ ap (λ n. number n i) (length-defined h) in
    let attributes : put_attribute name t (put_all [] (attributes_from b ds)) ≡ put_all [] (attributes_from b (def_last ds name i)) =
    ap (λ u. put_attribute name u (put_all [] (attributes_from b ds))) copy
    ∙ sym (put_all-push [] (attributes_from b ds) name (number (b + count_defs ds) i))
    ∙ ap (put_all []) (sym (attributes_from-last b ds name i)) in
    let frames_behind : rest ++ new ≡ map settled_frame (frames_in (length before) b (def_last ds name i)) =
    ap (λ n. rest ++ map settled_frame (frames (length before) n i)) (length-defined h)
    ∙ sym (map-append settled_frame (frames_in (length before) b ds) (frames (length before) (b + count_defs ds) i))
    ∙ ap (map settled_frame) (sym (frames_in-last (length before) b ds name i)) in
    record {
      defined = e
          ∙ ap (λ fs. defined fs (length before) name t) here
          ∙ defined-behind before (rest ++ new) own name t
          ∙ ap (λ as_put. before ++ (record { parent = parent; attributes = as_put }) ∷ (rest ++ new)) attributes
          ∙ ap (λ fs. before ++ settled_frame (record { parent = parent; attributes = attributes_from b (def_last ds name i) }) ∷ fs) frames_behind;
    }

-- a frame that has all its definitions is placed
pub defined-placed : {parent : ℕ} {ds : Defs} {before after : List Frame} → HasDefined parent ds before after
    → IsPlaced parent (inner ds) (frame (length before)) before after
defined-placed h = record { copied = refl; opened = h.defined }

-- an expression that was read as a node, and whose copy is made as one
pub read-placed : {p : ℕ} (k : ℕ → Defs) {label : Label} {ts us : Trees} {e copy : Tree} {before after : List Frame}
    → e ≡ node label ts → copy ≡ node label us → AreAllPlaced p (inlined_all k ts) us before after → IsPlaced p (inlined k e) copy before after
read-placed {p} k {label} {ts} {us} {e} {copy} {before} {after} read made h =
    subst (λ t. IsPlaced p (inlined k t) copy before after) (sym read)
    (subst (λ t. IsPlaced p (shape label (inlined_all k ts)) t before after) (sym made) (node-placed label h))

-- and one that was read as the number of a frame
pub frame_read-placed : {p : ℕ} (k : ℕ → Defs) {f n : ℕ} {e copy : Tree} {before after : List Frame}
    → e ≡ frame f → copy ≡ frame n → IsPlaced p (inner (k f)) (frame n) before after → IsPlaced p (inlined k e) copy before after
frame_read-placed {p} k {f} {n} {e} {copy} {before} {after} read made h =
    subst (λ t. IsPlaced p (inlined k t) copy before after) (sym read)
    (subst (λ t. IsPlaced p (inner (k f)) t before after) (sym made) h)
