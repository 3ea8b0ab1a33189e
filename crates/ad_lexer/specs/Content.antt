-- What a string or a quoted name means, as a function of its bytes with their quotes.
use Rattle.std.specs.Prelude.{ℕ, zero, suc, ◌+◌, ◌-◌, ◌*◌, not, ◌==◌, List, [], ◌∷◌, drop, slice_index, Option, Some, None, is_some, if◌then◌else◌}
use Rattle.ad_lexer.specs.Quoted.{escaped, is_octal_digit}

-- the value of the octal digits that stand first among three bytes, of which the first is one
abbrev pub octal_value : ℕ → ℕ → ℕ → ℕ
octal_value first second third =
    if not (is_octal_digit second) then first - 48
    else (if not (is_octal_digit third) then (first - 48) * 8 + (second - 48)
    else ((first - 48) * 8 + (second - 48)) * 8 + (third - 48))

-- how many bytes an escape of octal digits takes, with its backslash
abbrev pub octal_len : ℕ → ℕ → ℕ
octal_len second third = if not (is_octal_digit second) then 2 else (if not (is_octal_digit third) then 3 else 4)

-- what an escape of one letter means, and where it is none, this value of octal digits
abbrev pub or_octal : Option ℕ → ℕ → ℕ
or_octal None value = value
or_octal (Some meant) value = meant

-- the byte that the letter at the front means: it stands for itself, or an escape stands there
unfoldable pub meaning_at : List ℕ → ℕ
meaning_at bytes =
    if slice_index bytes 0 == 92
    then or_octal (escaped (slice_index bytes 1)) (octal_value (slice_index bytes 1) (slice_index bytes 2) (slice_index bytes 3))
    else slice_index bytes 0

-- how many bytes that letter takes
unfoldable pub letter_len : List ℕ → ℕ
letter_len bytes =
    if slice_index bytes 0 == 92
    then (if is_some (escaped (slice_index bytes 1)) then 2 else octal_len (slice_index bytes 2) (slice_index bytes 3))
    else 1

-- what the letters up to the quote mean, with bytes to skip first
abbrev pub content_from : ℕ → ℕ → List ℕ → List ℕ
content_from quote skip [] = []
content_from quote (suc skip) (byte ∷ bytes) = content_from quote skip bytes
content_from quote zero (byte ∷ bytes) =
    if byte == quote then []
    else meaning_at (byte ∷ bytes) ∷ content_from quote (letter_len (byte ∷ bytes) - 1) bytes

-- what the letters between the quotes mean
abbrev pub content : List ℕ → List ℕ
content bytes = content_from (slice_index bytes 0) 0 (drop 1 bytes)
