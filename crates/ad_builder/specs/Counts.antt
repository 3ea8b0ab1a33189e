-- Numbers of trees, which stop far above what a parse allows.
use Rattle.std.specs.Prelude.{◌≡◌, ℕ, ◌+◌, ◌-◌, ◌^◌, min, List, [], ◌∷◌}
use Rattle.ad_tree.specs.Inline.{Inline, count, definitions}

-- heights are exact up to here
abbrev pub tallest_measured : ℕ
tallest_measured = 255

-- counts are exact up to here
abbrev pub counting_limit : ℕ
counting_limit = 2 ^ 32 - 1

-- how many ad literals and definitions trees have, all together
abbrev pub count_of : List Inline → ℕ
count_of [] = 0
count_of (x ∷ st) = count x + count_of st

abbrev pub definitions_of : List Inline → ℕ
definitions_of [] = 0
definitions_of (x ∷ st) = definitions x + definitions_of st

-- these are their numbers
pub record AreCounted (f d : ℕ) (st : List Inline) : Type 0 where
  pub frames : f ≡ min counting_limit (count_of st)
  pub definitions : d ≡ min counting_limit (definitions_of st)
