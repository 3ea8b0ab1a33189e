-- Bytes without the difference of capital and small ASCII letters.
use Rattle.std.specs.Prelude.{ℕ, List, map}
use Rattle.std.specs.Char.{to_ascii_lowercase}
use Rattle.std.specs.Cmp.Lexicographic.{slice_cmp}
use Rattle.std.specs.Ordering.{nat_cmp}
use Rattle.std.specs.declared.cmp.Ordering.{Ordering}

-- the bytes with A to Z made small
abbrev pub folded : List ℕ → List ℕ
folded bytes = map to_ascii_lowercase bytes

-- how two texts compare, byte by byte after A to Z are made small, the shorter first where it begins the longer
abbrev pub text_order : List ℕ → List ℕ → Ordering
text_order a b = slice_cmp nat_cmp (folded a) (folded b)
