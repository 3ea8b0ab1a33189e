-- The number as the code reads it, byte by byte.
use Rattle.std.specs.Prelude.{ℕ, ◌+◌, ◌*◌, ◌^◌, ◌&&◌, nat_lt, List, [], ◌∷◌, Option, None, Some, if◌then◌else◌}
use Rattle.std.specs.Char.{is_ascii_digit, digit_value}

-- the number that further digits write behind those of n
abbrev pub read_from : ℕ → List ℕ → Option ℕ
read_from n [] = Some n
read_from n (c ∷ cs) = if is_ascii_digit c && nat_lt (n * 10 + digit_value c) (2 ^ 64) then read_from (n * 10 + digit_value c) cs else None
