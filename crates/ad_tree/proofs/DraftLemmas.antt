-- The frames of a draft: the root, and those behind it.
use Rattle.std.proofs.Common.{refl, arith, ◌≡◌, ◌<◌, ◌-◌, ℕ, zero, suc, List, [], ◌∷◌, length, get_or, ap, sym, ◌∙◌, Some, option_map, slice_get, slice_set}
use Rattle.std.proofs.Common.{Result, Ok, Err, OnOk, OnErr}
use Rattle.std.proofs.lemmas.Option.{slice_get_read, slice_get-map}
use Rattle.ad_tree.specs.declared.frame.AdFrame.{AdFrame}
use Rattle.ad_tree.specs.Tree.{Tree}
use Rattle.ad_tree.specs.Frames.{Frame, defined_in, defined, parent_of}
use Rattle.ad_tree.specs.Table.{frame_of, frames_of}

less_one : (f : ℕ) → suc f - 1 ≡ f
less_one f = omega arith

-- a frame behind the root is read at one place less
pub inner-read : (root : Frame) (fs : List AdFrame) (f : ℕ) (x : AdFrame) → (f ≡ 0 → ⊥) → f - 1 < length fs → x ≡ get_or fs (f - 1) x
    → Some (frame_of x) ≡ slice_get (root ∷ frames_of fs) f
inner-read root fs zero x n h e = absurd (n refl)
inner-read root fs (suc f) x n h e =
    sym (slice_get-map frame_of fs f
    ∙ ap (option_map frame_of) (slice_get_read fs (length fs) f x refl (omega (arith, h)) (e ∙ ap (λ k. get_or fs k x) (less_one f))))

-- a write at a place writes the frame there
pub frames_of-set : (fs : List AdFrame) (k : ℕ) (x : AdFrame) → frames_of (slice_set fs k x) ≡ slice_set (frames_of fs) k (frame_of x)
frames_of-set [] k x = refl
frames_of-set (g ∷ gs) zero x = refl
frames_of-set (g ∷ gs) (suc k) x = ap (λ hs. frame_of g ∷ hs) (frames_of-set gs k x)

defined-set : (fs : List AdFrame) (k : ℕ) (x old : AdFrame) (name : List ℕ) (t : Tree) → k < length fs → old ≡ get_or fs k old
    → frame_of x ≡ defined_in (frame_of old) name t
    → slice_set (frames_of fs) k (frame_of x) ≡ defined (frames_of fs) k name t
defined-set [] k x old name t h e d = absurd (omega (arith, h))
defined-set (g ∷ gs) zero x old name t h e d = ap (λ f. f ∷ frames_of gs) (d ∙ ap (λ o. defined_in (frame_of o) name t) e)
defined-set (g ∷ gs) (suc k) x old name t h e d = ap (λ hs. frame_of g ∷ hs) (defined-set gs k x old name t (omega (arith, h)) e d)

-- a frame behind the root takes a definition
pub inner-defined : (root : Frame) (fs : List AdFrame) (f : ℕ) (x old : AdFrame) (name : List ℕ) (t : Tree) → (f ≡ 0 → ⊥) → f - 1 < length fs
    → old ≡ get_or fs (f - 1) old
    → frame_of x ≡ defined_in (frame_of old) name t
    → root ∷ frames_of (slice_set fs (f - 1) x) ≡ defined (root ∷ frames_of fs) f name t
inner-defined root fs zero x old name t n h e d = absurd (n refl)
inner-defined root fs (suc f) x old name t n h e d =
    ap (λ k. root ∷ frames_of (slice_set fs k x)) (less_one f)
    ∙ ap (λ hs. root ∷ hs) (frames_of-set fs f x ∙ defined-set fs f x old name t (omega (arith, h)) (e ∙ ap (λ k. get_or fs k old) (less_one f)) d)

-- or stays as it was
same-set : (fs : List AdFrame) (k : ℕ) (x old : AdFrame) → k < length fs → old ≡ get_or fs k old → frame_of x ≡ frame_of old
    → slice_set (frames_of fs) k (frame_of x) ≡ frames_of fs
same-set [] k x old h e d = absurd (omega (arith, h))
same-set (g ∷ gs) zero x old h e d = ap (λ f. f ∷ frames_of gs) (d ∙ ap frame_of e)
same-set (g ∷ gs) (suc k) x old h e d = ap (λ hs. frame_of g ∷ hs) (same-set gs k x old (omega (arith, h)) e d)

pub inner-same : (root : Frame) (fs : List AdFrame) (k : ℕ) (x old : AdFrame) → k < length fs → old ≡ get_or fs k old → frame_of x ≡ frame_of old
    → root ∷ frames_of (slice_set fs k x) ≡ root ∷ frames_of fs
inner-same root fs k x old h e d = ap (λ hs. root ∷ hs) (frames_of-set fs k x ∙ same-set fs k x old h e d)

-- the parent of a frame of an ad is read in the frame
pub parent-read : (frames : List Frame) (f : ℕ) (x : AdFrame) → (f ≡ 0 → ⊥) → slice_get frames f ≡ Some (frame_of x) → parent_of frames f ≡ Some x.parent
parent-read frames zero x n is = absurd (n refl)
parent-read frames (suc f) x n is = ap (option_map (λ g. g.parent)) is

-- what a result tells, told on
pub on_ok : {A E : Type 0} (r : Result A E) {P Q : Type 0} → (P → Q) → OnOk r P → OnOk r Q
on_ok (Ok a) f h = f h
on_ok (Err e) f h = h

pub on_err : {A E : Type 0} (r : Result A E) {P Q : Type 0} → (P → Q) → OnErr r P → OnErr r Q
on_err (Ok a) f h = h
on_err (Err e) f h = f h

pub told_on_err : {A E : Type 0} (r : Result A E) {P : Type 0} → P → OnErr r P
told_on_err (Ok a) h = tt
told_on_err (Err e) h = h
