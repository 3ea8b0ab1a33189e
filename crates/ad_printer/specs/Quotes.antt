-- How a text is spelled between quotes: by letters, as the lexer reads them.
use Rattle.std.specs.Prelude.{ℕ, ◌+◌, ◌/◌, ◌%◌, ◌||◌, ◌==◌, nat_lt, List, [], ◌∷◌, ◌++◌, map, if◌then◌else◌}
use Rattle.ad_lexer.specs.Quoted.{Letter, plain, escape, octal, spellings}

-- the three octal digits of a byte
abbrev pub octal_digits : ℕ → List ℕ
octal_digits byte = (48 + byte / 64) ∷ (48 + byte / 8 % 8) ∷ (48 + byte % 8) ∷ []

-- the letter of a byte: the quote and the backslash behind a backslash, `\b \t \n \f \r`, octal digits for the other
-- control bytes, and any other byte as it is
unfoldable pub letter_for : ℕ → ℕ → Letter
letter_for quote byte =
    if byte == quote || byte == 92 then escape byte byte
    else (if byte == 8 then escape 98 8
    else (if byte == 9 then escape 116 9
    else (if byte == 10 then escape 110 10
    else (if byte == 12 then escape 102 12
    else (if byte == 13 then escape 114 13
    else (if nat_lt byte 32 || byte == 127 then octal (octal_digits byte)
    else plain byte))))))

-- a text between quotes
abbrev pub in_quotes : ℕ → List ℕ → List ℕ
in_quotes quote text = quote ∷ (spellings (map (letter_for quote) text) ++ quote ∷ [])
