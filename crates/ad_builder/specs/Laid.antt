-- How the operands of the builder stand in its draft.
use Rattle.std.specs.Prelude.{ℕ, Bool, true, false, ◌≡◌, List, [], ◌∷◌, length}
use Rattle.ad_tree.specs.Tree.{Tree}
use Rattle.ad_tree.specs.Frames.{Frame, empty_frame}
use Rattle.ad_tree.specs.Inline.{Inline, inner}
use Rattle.ad_tree.specs.Placed.{IsPlaced, HasDefined}

-- an operand: a tree, or an ad literal whose definitions are being made, with its frame and the frame in which it stands
pub data Slot : Type 0 where
  value : Tree → Slot
  open_ad : ℕ → ℕ → Slot

-- the frames below the first operand: none for an ad, whose root is an ad literal that is open, and an empty root for an
-- expression
abbrev pub base : Bool → List Frame
base true = []
base false = empty_frame 0 ∷ []

-- operands, the last one first, stand in frame `parent` for the trees of a stack, and all frames are theirs: each
-- operand's frames stand behind those of the operands below it
abbrev pub Laid : (is_ad : Bool) → List Slot → (parent : ℕ) → List Inline → List Frame → Type 0
Laid is_ad [] p [] after = (p ≡ 0) × (after ≡ base is_ad)
Laid is_ad (value t ∷ ss) p (x ∷ st) after = (before : List Frame) × Laid is_ad ss p st before × IsPlaced p x t before after
Laid is_ad (open_ad n outer ∷ ss) p (inner ds ∷ st) after =
    (before : List Frame) × Laid is_ad ss outer st before × HasDefined outer ds before after × (p ≡ n) × (n ≡ length before)
Laid is_ad ss p st after = ⊥
