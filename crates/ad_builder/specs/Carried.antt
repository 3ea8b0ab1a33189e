-- What a machine keeps of its stack.
use Rattle.std.specs.Prelude.{◌≤◌, Bool, true, false, List, [], ◌∷◌}
use Rattle.ad_tree.specs.Inline.{Inline, height}
use Rattle.ad_builder.specs.Builds.{Holds}
use Rattle.ad_builder.specs.Sizes.{tallest_built, IsHigh}
use Rattle.ad_builder.specs.declared.builder.Builder.{Builder}

-- no tree of a stack is higher than is built
abbrev pub AreLow : List Inline → Type 0
AreLow [] = Unit {0}
AreLow (x ∷ st) = (height x ≤ tallest_built) × AreLow st

-- a builder holds the trees of a stack, of which none is too high, or some tree is
abbrev pub IsCarried : (is_ad is_high : Bool) → Builder → List Inline → Type 0
IsCarried is_ad true builder st = IsHigh st
IsCarried is_ad false builder st = Holds is_ad builder st × AreLow st
