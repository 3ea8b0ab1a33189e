-- White space and comments.
use Rattle.std.specs.Prelude.{◌≡◌, ℕ, ◌<◌, Bool, true, false, not, ◌&&◌, ◌||◌, ◌==◌, List, [], ◌∷◌, ◌++◌, length, slice_index, ◌⊎◌}
use Rattle.std.specs.List.{list_all}

-- space, tab, line feed, carriage return and form feed
abbrev pub is_space : ℕ → Bool
is_space byte = byte == 32 || byte == 9 || byte == 10 || byte == 13 || byte == 12

-- a line feed ends the line
abbrev pub is_line_byte : ℕ → Bool
is_line_byte byte = not (byte == 10)

-- `//` or `/*` stands first
abbrev pub begins_comment : List ℕ → Bool
begins_comment text = slice_index text 0 == 47 && (slice_index text 1 == 47 || slice_index text 1 == 42)

-- `*/` stands somewhere
abbrev pub has_close : List ℕ → Bool
has_close [] = false
has_close (byte ∷ bytes) = (byte == 42 && slice_index bytes 0 == 47) || has_close bytes

-- one byte of white space
abbrev pub IsSpace : List ℕ → Type 0
IsSpace bytes = (byte : ℕ) × (bytes ≡ byte ∷ []) × (is_space byte ≡ true)

-- `//` up to a line feed or the end of the text
abbrev pub IsLineComment : List ℕ → List ℕ → Type 0
IsLineComment bytes after =
    (inner : List ℕ) × (bytes ≡ 47 ∷ 47 ∷ inner) × (list_all is_line_byte inner ≡ true)
    × (0 < length after → slice_index after 0 ≡ 10)

-- `/*` up to and with the next `*/`, whose `*` isn't the one of `/*`
abbrev pub IsBlockComment : List ℕ → Type 0
IsBlockComment bytes =
    (inner : List ℕ) × (bytes ≡ 47 ∷ 42 ∷ (inner ++ 42 ∷ 47 ∷ [])) × (has_close (inner ++ 42 ∷ []) ≡ false)

-- the bytes are one byte of white space, or a comment, before the bytes that follow
abbrev pub IsBlank : List ℕ → List ℕ → Type 0
IsBlank bytes after = IsSpace bytes ⊎ (IsLineComment bytes after ⊎ IsBlockComment bytes)
