-- How large a tree is, as numbers.
use Rattle.std.specs.Prelude.{◌≡◌, ℕ, ◌<◌, ◌≤◌, ◌⊎◌, min, true, false, List, [], ◌∷◌}
use Rattle.ad_tree.specs.Inline.{Inline, height, count, definitions}
use Rattle.ad_builder.specs.Counts.{counting_limit}
use Rattle.ad_builder.specs.declared.size.Size.{Size}

-- how high a tree is at most that is built
abbrev pub tallest_built : ℕ
tallest_built = 64

-- some tree of a stack is higher
abbrev pub IsHigh : List Inline → Type 0
IsHigh [] = ⊥
IsHigh (x ∷ st) = (tallest_built < height x) ⊎ IsHigh st

-- a tree is too high, or these are its numbers, exact up to the counting limit
pub record IsSize (size : Size) (x : Inline) : Type 0 where
  pub high : size.is_high ≡ true → tallest_built < height x
  pub low : size.is_high ≡ false → height x ≤ tallest_built
  pub frames : size.is_high ≡ false → size.frames ≡ min counting_limit (count x)
  pub definitions : size.is_high ≡ false → size.definitions ≡ min counting_limit (definitions x)
