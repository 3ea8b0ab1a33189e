-- The names and the numbers among the words of a line.
use Rattle.std.specs.Prelude.{ℕ, Bool, ◌||◌, ◌&&◌, ◌==◌, nat_le, List, length, Option, None, Some, option_and_then, if◌then◌else◌}
use Rattle.std.specs.List.{list_all}
use Rattle.std.specs.Char.{is_ascii_alphanumeric}
use Rattle.pool_text.specs.Number.{number_of}
use Rattle.pool_text.specs.Words.{is_empty, word_of, words_behind}

-- a letter, a digit, `_`, `-`, `.` or `@`
abbrev pub is_name_byte : ℕ → Bool
is_name_byte byte = is_ascii_alphanumeric byte || byte == 95 || byte == 45 || byte == 46 || byte == 64

-- 1 to 64 bytes of a name
abbrev pub is_name : List ℕ → Bool
is_name bytes = nat_le 1 (length bytes) && nat_le (length bytes) 64 && list_all is_name_byte bytes

-- the number that digits write, where it is neither below the least nor above the most
abbrev pub number_within : ℕ → ℕ → List ℕ → Option ℕ
number_within least most bytes = option_and_then (λ n. if nat_le least n && nat_le n most then Some n else None) (number_of bytes)

-- the number that the only word writes, within bounds
abbrev pub sole_number : List ℕ → ℕ → ℕ → Option ℕ
sole_number bytes least most = if is_empty (words_behind bytes) then number_within least most (word_of bytes) else None
