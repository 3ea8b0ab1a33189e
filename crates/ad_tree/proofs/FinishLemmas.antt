-- What a finished draft is: its spelled tree in the numbering of the opening brackets.
use Rattle.std.proofs.Common.{refl, ◌≡◌, ℕ, zero, suc, List, [], ◌∷◌, ◌++◌, length, map, ap, sym, ◌∙◌, subst, IsTrue, Result, Ok, Err, IfOk}
use Rattle.ad_tree.specs.declared.frame.AdFrame.{AdFrame}
use Rattle.ad_tree.specs.Tree.{Tree}
use Rattle.ad_tree.specs.Names.{are_apart}
use Rattle.ad_tree.specs.Frames.{Frame, empty_frame, names_in, settled_frame, IsAd}
use Rattle.ad_tree.specs.Inline.{Inline, frames, number, inlined, defs_of, inside, opened, spelled, spelled_tree}
use Rattle.ad_tree.specs.Phrases.{IsPhrase}
use Rattle.ad_tree.specs.Placed.{IsPlaced, HasDefined}
use Rattle.ad_tree.specs.Table.{frame_of, frames_of}
use Rattle.ad_tree.proofs.AdLemmas.{IsAd-frames, IsAd-phrase, inside-apart, spelled_tree-apart}
use Rattle.ad_tree.proofs.FrameLemmas.{apart-frames}
use Rattle.ad_tree.proofs.PlacedLemmas.{defined-placed}
use Rattle.ad_tree.proofs.SpellingLemmas.{settled_frame-frames, spelled_tree-frames}

-- the names of each frame of a draft are apart
pub apart-draft : (root : AdFrame) (fs : List AdFrame) (f : ℕ) → IsTrue (are_apart (names_in (frame_of root ∷ frames_of fs) f))
apart-draft root fs zero = root.apart
apart-draft root fs (suc f) = apart-frames fs f

module _ (fs : List Frame) (apart : (f : ℕ) → IsTrue (are_apart (names_in fs f))) (n : ℕ) (all : n ≡ length fs) where
  pub finished : {t : Tree} {before after : List Frame} → before ≡ [] → IsPlaced 0 (opened fs n 0) t before after → after ≡ frames 0 0 (spelled fs)
  finished {t} {before} {after} new placed =
      placed.opened
      ∙ ap (λ gs. gs ++ map settled_frame (frames 0 (length gs) (opened fs n 0))) new
      ∙ ap (λ m. map settled_frame (frames 0 0 (opened fs m 0))) all
      ∙ settled_frame-frames 0 0 (spelled fs) (inside-apart fs apart (length fs) 0)

  -- behind whatever root
  pub finished_phrase : (t : Tree) {copy : Tree} {root : Frame} {before after : List Frame} → before ≡ root ∷ []
      → IsPlaced 0 (inlined (inside fs n) t) copy before after
      → after ≡ root ∷ frames 0 1 (spelled_tree fs t)
  finished_phrase t {copy} {root} {before} {after} new placed =
      placed.opened
      ∙ ap (λ gs. gs ++ map settled_frame (frames 0 (length gs) (inlined (inside fs n) t))) new
      ∙ ap (λ m. root ∷ map settled_frame (frames 0 1 (inlined (inside fs m) t))) all
      ∙ ap (λ gs. root ∷ gs) (settled_frame-frames 0 1 (spelled_tree fs t) (spelled_tree-apart fs apart t))

  pub phrase_tree : (t : Tree) {copy : Tree} {root : Frame} {before after : List Frame} → before ≡ root ∷ []
      → IsPlaced 0 (inlined (inside fs n) t) copy before after
      → copy ≡ number 1 (spelled_tree fs t)
  phrase_tree t new placed =
      placed.copied
      ∙ ap (λ gs. number (length gs) (inlined (inside fs n) t)) new
      ∙ ap (λ m. number 1 (inlined (inside fs m) t)) all

-- the root's definitions, copied into a new draft
pub finished_root : (root : Frame) (fs : List Frame) → ((f : ℕ) → IsTrue (are_apart (names_in (root ∷ fs) f))) → (n : ℕ) → n ≡ length fs → {after : List Frame}
    → HasDefined 0 (defs_of (inside (root ∷ fs) n) root.attributes) [] after → after ≡ frames 0 0 (spelled (root ∷ fs))
finished_root root fs apart n all h = finished (root ∷ fs) apart (suc n) (ap suc all) refl (defined-placed h)

-- an expression and an ad that are numbered together are an expression that stands alone
pub numbered_phrase : (x : Inline) {fs : List Frame} {t : Tree} → fs ≡ empty_frame 0 ∷ frames 0 1 x → t ≡ number 1 x → IsPhrase fs t
numbered_phrase x {fs} {t} opened numbered =
    let same : spelled_tree fs t ≡ x =
    ap (λ gs. spelled_tree gs t) opened ∙ ap (spelled_tree (empty_frame 0 ∷ frames 0 1 x)) numbered ∙ spelled_tree-frames x in
    record { opened = opened ∙ ap (λ y. empty_frame 0 ∷ frames 0 1 y) (sym same); numbered = numbered ∙ ap (number 1) (sym same) }

-- those frames are an ad
module _ (fs : List Frame) (apart : (f : ℕ) → IsTrue (are_apart (names_in fs f))) where
  pub finished_is_ad : {after : List Frame} → after ≡ frames 0 0 (spelled fs) → IsAd after
  finished_is_ad e = subst IsAd (sym e) (IsAd-frames (inside fs (length fs) 0) (inside-apart fs apart (length fs) 0))

  pub phrase_is_ad : (t : Tree) {after : List Frame} → after ≡ empty_frame 0 ∷ frames 0 1 (spelled_tree fs t) → IsAd after
  phrase_is_ad t e = subst IsAd (sym e) (IsAd-phrase (spelled_tree fs t) (spelled_tree-apart fs apart t))

-- what an Ok tells, told on
pub if_ok : {A E : Type 0} (r : Result A E) {P Q : A → Type 0} → ((a : A) → P a → Q a) → IfOk r P → IfOk r Q
if_ok (Ok a) f h = f a h
if_ok (Err e) f h = h
