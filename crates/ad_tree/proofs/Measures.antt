-- The measure of the walk over a draft: levels of frames first, then the tree.
use Rattle.std.proofs.Common.{arith, ◌≡◌, ◌≤◌, ◌<◌, ◌*◌, ◌-◌, ℕ, zero, suc, ◌+◌, List, [], ◌∷◌, Some, slice_get, ap}
use Rattle.ad_tree.specs.Tree.{Tree, size}
use Rattle.ad_tree.specs.Frames.{Frame}

-- the sizes of all expressions of a frame, and of a list of frames
abbrev pub attributes_size : List (List ℕ × Tree) → ℕ
attributes_size [] = 0
attributes_size (a ∷ rest) = size a.1 + attributes_size rest

abbrev pub weight : List Frame → ℕ
weight [] = 0
weight (f ∷ fs) = attributes_size f.attributes + weight fs

-- the levels that are left
unfoldable pub levels : ℕ → List Frame → ℕ
levels turns fs = 4 * (turns * suc (weight fs))

-- an attribute is no larger than its frame, and a frame no larger than all
pub attributes_size-at : (attributes : List (List ℕ × Tree)) (k : ℕ) (a : List ℕ × Tree) → slice_get attributes k ≡ Some a
    → size a.1 ≤ attributes_size attributes
attributes_size-at [] k a e = absurd (cc)
attributes_size-at (b ∷ rest) zero a e = let same : b ≡ a = cc in omega (arith, ap (λ c. size c.1) same)
attributes_size-at (b ∷ rest) (suc k) a e = omega (arith, attributes_size-at rest k a e)

pub weight-at : (fs : List Frame) (k : ℕ) (f : Frame) → slice_get fs k ≡ Some f → attributes_size f.attributes ≤ weight fs
weight-at [] k f e = absurd (cc)
weight-at (g ∷ gs) zero f e = let same : g ≡ f = cc in omega (arith, ap (λ h. attributes_size h.attributes) same)
weight-at (g ∷ gs) (suc k) f e = omega (arith, weight-at gs k f e)

-- one level less leaves room for a frame
levels-suc : (n w : ℕ) → suc n * suc w ≡ n * suc w + suc w
levels-suc n w = omega arith

pub levels-down : (turns : ℕ) (fs : List Frame) → 0 < turns → levels (turns - 1) fs + 4 * weight fs + 4 ≤ levels turns fs
unfolding levels
levels-down zero fs h = absurd (omega (arith, h))
levels-down (suc n) fs h =
    let less : suc n - 1 ≡ n = omega arith in
    rw less (omega (arith, levels-suc n (weight fs)))
