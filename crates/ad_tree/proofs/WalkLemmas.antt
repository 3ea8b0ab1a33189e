-- The steps of the walk that copies a draft into an ad.
use Rattle.std.proofs.Common.{refl, arith, ◌≡◌, ◌-◌, ℕ, zero, suc, ◌+◌, List, [], ◌∷◌, ◌++◌, length, take, ap, sym, ◌∙◌, subst, None, Some, slice_get, add-one}
use Rattle.std.proofs.Common.{◌<◌, length-append}
use Rattle.ad_tree.specs.Tree.{Tree, frame, pack}
use Rattle.ad_tree.specs.Frames.{Frame, empty_frame, attributes_in, defined, defined_in}
use Rattle.ad_tree.specs.Inline.{inner, Defs, no_defs, inlined, inlined_all, defs_of, inside, opened}
use Rattle.ad_tree.specs.Placed.{IsPlaced, AreAllPlaced, AreDefinitionsPlaced, HasDefined}
use Rattle.ad_tree.proofs.InlineLemmas.{next_last, def_last, pack-push, inlined_all-last, defs_of-push}
use Rattle.ad_tree.proofs.PlacedLemmas.{last-placed, def-placed, empty-placed, next-defined, defined-placed}

-- one item more from the front
pub take-next : {A : Type 0} (xs : List A) (j : ℕ) (x : A) → slice_get xs j ≡ Some x → take (j + 1) xs ≡ take j xs ++ x ∷ []
take-next xs j x h = ap (λ n. take n xs) (add-one j) ∙ by xs j h
  where
    by : (ys : List _) (k : ℕ) → slice_get ys k ≡ Some x → take (suc k) ys ≡ take k ys ++ x ∷ []
    by [] k e = absurd (cc)
    by (y ∷ ys) zero e = let same : y ≡ x = cc in ap (λ z. z ∷ []) same
    by (y ∷ ys) (suc k) e = ap (λ zs. y ∷ zs) (by ys k e)

-- one tree of a list more is placed
pub list-placed : {p : ℕ} (k : ℕ → Defs) (ts : List Tree) (j : ℕ) (t : Tree) (us vs : List Tree) (copy : Tree) {before between after : List Frame}
    → slice_get ts j ≡ Some t → vs ≡ us ++ copy ∷ []
    → AreAllPlaced p (inlined_all k (pack (take j ts))) (pack us) before between → IsPlaced p (inlined k t) copy between after
    → AreAllPlaced p (inlined_all k (pack (take (j + 1) ts))) (pack vs) before after
list-placed {p} k ts j t us vs copy {before} {between} {after} at push h one =
    subst (λ is. AreAllPlaced p is (pack vs) before after)
    (sym (ap (λ xs. inlined_all k (pack xs)) (take-next ts j t at) ∙ ap (inlined_all k) (pack-push (take j ts) t) ∙ inlined_all-last k (pack (take j ts)) t))
    (subst (λ cs. AreAllPlaced p (next_last (inlined_all k (pack (take j ts))) (inlined k t)) cs before after)
    (sym (ap pack push ∙ pack-push us copy))
    (last-placed h one))

-- one definition of a frame more is placed
pub defs-placed : {parent p : ℕ} (k : ℕ → Defs) (attributes : List (List ℕ × Tree)) (j : ℕ) (name : List ℕ) (t : Tree) (f g : Frame) (copy : Tree)
    {before between after : List Frame}
    → slice_get attributes j ≡ Some (name, t) → g ≡ defined_in f name copy
    → AreDefinitionsPlaced parent p (defs_of k (take j attributes)) f before between → IsPlaced p (inlined k t) copy between after
    → AreDefinitionsPlaced parent p (defs_of k (take (j + 1) attributes)) g before after
defs-placed {parent} {p} k attributes j name t f g copy {before} {between} {after} at define h one =
    subst (λ ds. AreDefinitionsPlaced parent p ds g before after)
    (sym (ap (defs_of k) (take-next attributes j (name, t) at) ∙ defs_of-push k (take j attributes) name t))
    (subst (λ c. AreDefinitionsPlaced parent p (def_last (defs_of k (take j attributes)) name (inlined k t)) c before after)
    (sym define)
    (def-placed name h one))

-- what stands in a frame that is opened with turns left
pub inside-turn : (fs : List Frame) (turns f : ℕ) (source : Frame) → (turns ≡ 0 → ⊥) → Some source ≡ slice_get fs f
    → inside fs turns f ≡ defs_of (inside fs (turns - 1)) source.attributes
inside-turn fs zero f source n h = absurd (n refl)
inside-turn fs (suc turns) f source n h =
    ap (λ o. defs_of (inside fs turns) (attributes_in o)) (sym h)
    ∙ ap (λ m. defs_of (inside fs m) source.attributes) less
  where
    less : turns ≡ suc turns - 1
    less = omega arith

-- nothing stands in a frame that is missing
inside-missing : (fs : List Frame) (turns f : ℕ) → None ≡ slice_get fs f → inside fs turns f ≡ no_defs
inside-missing fs zero f h = refl
inside-missing fs (suc turns) f h = ap (λ o. defs_of (inside fs turns) (attributes_in o)) (sym h)

pub missing-placed : (parent n : ℕ) (fs : List Frame) (turns f : ℕ) {before after : List Frame}
    → n ≡ length before → None ≡ slice_get fs f → after ≡ before ++ empty_frame parent ∷ []
    → IsPlaced parent (opened fs turns f) (frame n) before after
missing-placed parent n fs turns f {before} {after} at none push =
    subst (λ m. IsPlaced parent (opened fs turns f) (frame m) before after) (sym at)
    (subst (λ ds. IsPlaced parent (inner ds) (frame (length before)) before after) (sym (inside-missing fs turns f none))
    (subst (λ gs. IsPlaced parent (inner no_defs) (frame (length before)) before gs) (sym push) (empty-placed parent before)))

-- nor in one that is reached with no turns left
pub closed-placed : (parent n : ℕ) (fs : List Frame) (turns f : ℕ) {before after : List Frame}
    → n ≡ length before → turns ≡ 0 → after ≡ before ++ empty_frame parent ∷ []
    → IsPlaced parent (opened fs turns f) (frame n) before after
closed-placed parent n fs turns f {before} {after} at none push =
    subst (λ m. IsPlaced parent (opened fs turns f) (frame m) before after) (sym at)
    (subst (λ m. IsPlaced parent (opened fs m f) (frame (length before)) before after) (sym none)
    (subst (λ gs. IsPlaced parent (inner no_defs) (frame (length before)) before gs) (sym push) (empty-placed parent before)))

-- a new frame is within the frames
pub new-within : (parent : ℕ) (before : List Frame) {n : ℕ} {after : List Frame} → n ≡ length before → after ≡ before ++ empty_frame parent ∷ []
    → n < length after
new-within parent before {n} {after} at push = omega (arith, at, ap length push, length-append before (empty_frame parent ∷ []))

-- one definition of a frame more is made
pub defs-defined : {parent : ℕ} (k : ℕ → Defs) (attributes : List (List ℕ × Tree)) (j : ℕ) (name : List ℕ) (t copy : Tree) (n : ℕ)
    {before between placed after : List Frame}
    → n ≡ length before → slice_get attributes j ≡ Some (name, t)
    → HasDefined parent (defs_of k (take j attributes)) before between → IsPlaced n (inlined k t) copy between placed → after ≡ defined placed n name copy
    → HasDefined parent (defs_of k (take (j + 1) attributes)) before after
defs-defined {parent} k attributes j name t copy n {before} {between} {placed} {after} here at h one define =
    subst (λ ds. HasDefined parent ds before after)
    (sym (ap (defs_of k) (take-next attributes j (name, t) at) ∙ defs_of-push k (take j attributes) name t))
    (next-defined name h (subst (λ m. IsPlaced m (inlined k t) copy between placed) here one) (define ∙ ap (λ m. defined placed m name copy) here))

pub frame_opened : (parent n : ℕ) (fs : List Frame) (turns f : ℕ) (source : Frame) {before after : List Frame}
    → n ≡ length before → (turns ≡ 0 → ⊥) → Some source ≡ slice_get fs f
    → HasDefined parent (defs_of (inside fs (turns - 1)) source.attributes) before after
    → IsPlaced parent (opened fs turns f) (frame n) before after
frame_opened parent n fs turns f source {before} {after} at left found defined =
    subst (λ m. IsPlaced parent (opened fs turns f) (frame m) before after) (sym at)
    (subst (λ es. IsPlaced parent (inner es) (frame (length before)) before after) (sym (inside-turn fs turns f source left found))
    (defined-placed defined))
