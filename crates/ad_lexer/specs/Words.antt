-- Words: plain names and reserved words.
use Rattle.std.specs.Prelude.{ℕ, Bool, false, ◌&&◌, ◌||◌, ◌==◌, List, [], ◌∷◌, codes}
use Rattle.std.specs.Char.{is_ascii_alphabetic, is_ascii_alphanumeric}
use Rattle.std.specs.List.{list_all, list_any}
use Rattle.std.specs.Str.{bytes_eq}
use Rattle.pool_text.specs.Folding.{folded}

-- a letter or `_`
abbrev pub begins_word : ℕ → Bool
begins_word byte = is_ascii_alphabetic byte || byte == 95

-- a letter, a digit or `_`
abbrev pub is_word_byte : ℕ → Bool
is_word_byte byte = is_ascii_alphanumeric byte || byte == 95

-- a letter or `_`, and then letters, digits and `_`
abbrev pub is_word : List ℕ → Bool
is_word [] = false
is_word (byte ∷ bytes) = begins_word byte && list_all is_word_byte bytes

-- the reserved words, in small letters
abbrev pub reserved : List (List ℕ)
reserved = codes "true" ∷ codes "false" ∷ codes "undefined" ∷ codes "error" ∷ codes "is" ∷ codes "isnt" ∷ []

-- the bytes are a reserved word, in capital or small letters
abbrev pub is_reserved : List ℕ → Bool
is_reserved bytes = list_any (bytes_eq (folded bytes)) reserved
