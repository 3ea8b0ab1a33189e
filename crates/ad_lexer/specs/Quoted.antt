-- Strings and quoted names: letters between two quotes. Byte 34 is `"`, 39 is `'`, 92 is the backslash.
use Rattle.std.specs.Prelude.{◌≡◌, ℕ, ◌<◌, ◌≤◌, Bool, true, false, not, ◌&&◌, ◌||◌, ◌==◌, nat_le, List, [], ◌∷◌, ◌++◌, length, map, slice_index, Option, Some}
use Rattle.std.specs.Prelude.{None, ◌⊎◌, if◌then◌else◌}
use Rattle.std.specs.List.{flat_map, list_all}
use Rattle.std.specs.Str.Parse.{digits_value}

-- a byte that stands for itself, an escape of one byte with the byte that it means, or an escape of octal digits
pub data Letter : Type 0 where
  plain : ℕ → Letter
  escape : ℕ → ℕ → Letter
  octal : List ℕ → Letter

-- the bytes of a letter
abbrev pub spelling : Letter → List ℕ
spelling (plain byte) = byte ∷ []
spelling (escape byte meant) = 92 ∷ byte ∷ []
spelling (octal digits) = 92 ∷ digits

-- the byte that a letter means
abbrev pub meaning : Letter → ℕ
meaning (plain byte) = byte
meaning (escape byte meant) = meant
meaning (octal digits) = digits_value 8 digits

-- any byte but the quote, the backslash, the line feed and byte 0
abbrev pub is_plain : ℕ → ℕ → Bool
is_plain quote byte = not (byte == quote || byte == 92 || byte == 10 || byte == 0)

-- what `b t n f r`, the backslash and the two quotes mean behind a backslash
abbrev pub escaped : ℕ → Option ℕ
escaped byte =
    if byte == 98 then Some 8
    else (if byte == 116 then Some 9
    else (if byte == 110 then Some 10
    else (if byte == 102 then Some 12
    else (if byte == 114 then Some 13
    else (if byte == 92 || byte == 34 || byte == 39 then Some byte
    else None)))))

-- `0` to `7`
abbrev pub is_octal_digit : ℕ → Bool
is_octal_digit byte = nat_le 48 byte && nat_le byte 55

-- one to three octal digits, as many as stand there, whose value is from 1 to 127
pub record IsOctal (digits after : List ℕ) : Type 0 where
  pub some : 0 < length digits
  pub most : length digits ≤ 3
  pub octal : list_all is_octal_digit digits ≡ true
  pub whole : length digits < 3 → is_octal_digit (slice_index after 0) ≡ false
  pub above : 0 < digits_value 8 digits
  pub below : digits_value 8 digits < 128

-- a letter between two such quotes, before the bytes that follow
abbrev pub IsLetter : ℕ → Letter → List ℕ → Type 0
IsLetter quote (plain byte) after = is_plain quote byte ≡ true
IsLetter quote (escape byte meant) after = escaped byte ≡ Some meant
IsLetter quote (octal digits) after = IsOctal digits after

-- the bytes of letters in a row
abbrev pub spellings : List Letter → List ℕ
spellings letters = flat_map spelling letters

-- each is a letter before the bytes that follow it
abbrev pub AreLetters : ℕ → List Letter → List ℕ → Type 0
AreLetters quote [] after = Unit {0}
AreLetters quote (letter ∷ letters) after =
    IsLetter quote letter (spellings letters ++ after) × AreLetters quote letters after

-- the bytes are the quote, letters and the quote again, and the letters mean the text
abbrev pub IsQuoted : ℕ → List ℕ → List ℕ → Type 0
IsQuoted quote bytes text =
    (letters : List Letter) × (bytes ≡ quote ∷ (spellings letters ++ quote ∷ []))
    × AreLetters quote letters (quote ∷ []) × (text ≡ map meaning letters)

-- the bytes are a string or a quoted name
abbrev pub IsQuotation : List ℕ → Type 0
IsQuotation bytes = ((text : List ℕ) × IsQuoted 34 bytes text) ⊎ ((text : List ℕ) × IsQuoted 39 bytes text)
