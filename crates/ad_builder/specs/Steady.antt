-- Trees whose frames stay as they are where repeated names are settled.
use Rattle.std.specs.Prelude.{ℕ, ◌≡◌, List, [], ◌∷◌, map}
use Rattle.ad_tree.specs.Frames.{settled_frame}
use Rattle.ad_tree.specs.Inline.{Inline, number, frames, settled}

-- to define name by name gives the frames of the tree without repeated names, whatever the first of them is, and it cites
-- them by the same numbers
pub record IsSteady (x : Inline) : Type 0 where
  pub framed : (p b : ℕ) → map settled_frame (frames p b x) ≡ frames p b (settled x)
  pub numbered : (b : ℕ) → number b x ≡ number b (settled x)

abbrev pub AreSteady : List Inline → Type 0
AreSteady [] = Unit {0}
AreSteady (x ∷ st) = IsSteady x × AreSteady st
