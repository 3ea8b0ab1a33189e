-- Expressions that stand alone, with the ad of their ad literals.
use Rattle.std.specs.Prelude.{◌≡◌, List, ◌∷◌}
use Rattle.ad_tree.specs.Tree.{Tree}
use Rattle.ad_tree.specs.Frames.{Frame, empty_frame}
use Rattle.ad_tree.specs.Inline.{frames, number, spelled_tree}

-- the root is empty, and the other frames are exactly the ad literals of the expression, numbered from 1 in the order of their opening brackets
pub record IsPhrase (fs : List Frame) (t : Tree) : Type 0 where
  pub opened : fs ≡ empty_frame 0 ∷ frames 0 1 (spelled_tree fs t)
  pub numbered : t ≡ number 1 (spelled_tree fs t)
