-- What is wrong at the front of a text that is UTF-8, and the place of the fault, counted from there.
use Rattle.std.specs.Prelude.{◌≡◌, ℕ, ◌+◌, Bool, true, false, not, ◌&&◌, ◌||◌, ◌==◌, List, [], ◌∷◌, ◌++◌, length, take, slice_index, ◌⊎◌}
use Rattle.std.specs.Char.{is_ascii_digit}
use Rattle.ad_lexer.specs.declared.fault.LexKind.{LexKind}
use Rattle.ad_lexer.specs.declared.fault.LexKind.TheVariants as kinds
use Rattle.ad_lexer.specs.declared.token.TokenKind.{TokenKind}
use Rattle.ad_lexer.specs.Blanks.{is_space, has_close}
use Rattle.ad_lexer.specs.Numbers.{has_fraction, is_hexadecimal, is_number, number_len}
use Rattle.ad_lexer.specs.Quoted.{Letter, spelling, spellings, IsLetter, AreLetters}
use Rattle.ad_lexer.specs.Spelling.{Spells}
use Rattle.ad_lexer.specs.Words.{is_word_byte}

-- no token at all begins with the first byte, and it is no white space
abbrev pub BeginsNothing : List ℕ → Type 0
BeginsNothing text =
    (byte : ℕ) × (bytes : List ℕ) × (text ≡ byte ∷ bytes) × (is_space byte ≡ false)
    × ((kind : TokenKind) (more : List ℕ) → ¬ Spells kind (byte ∷ more))

-- behind an opening quote stand letters and then the rest, at this place
pub record ReadsTo (quote : ℕ) (text rest : List ℕ) (place : ℕ) : Type 0 where
  pub is_quote : (quote == 34 || quote == 39) ≡ true
  pub letters : List Letter
  pub text_is : text ≡ quote ∷ (spellings letters ++ rest)
  pub are_letters : AreLetters quote letters rest
  pub place_is : place ≡ 1 + length (spellings letters)

-- byte 0 stands in a string or quoted name
abbrev pub HasNul : List ℕ → ℕ → Type 0
HasNul text place = (quote : ℕ) × (more : List ℕ) × ReadsTo quote text (0 ∷ more) place

-- a quoted name of no letters stands first
abbrev pub IsEmptyName : List ℕ → Type 0
IsEmptyName text = (more : List ℕ) × (text ≡ 39 ∷ 39 ∷ more)

-- a line feed, the end of the text, or a backslash as its last byte comes before the closing quote
abbrev pub IsOpenString : List ℕ → Type 0
IsOpenString text =
    (quote : ℕ) × (rest : List ℕ) × (place : ℕ) × ReadsTo quote text rest place
    × ((rest ≡ []) ⊎ ((rest ≡ 92 ∷ []) ⊎ ((more : List ℕ) × (rest ≡ 10 ∷ more))))

-- a backslash with a byte behind it is no letter
abbrev pub HasBadEscape : List ℕ → ℕ → Type 0
HasBadEscape text place =
    (quote : ℕ) × (byte : ℕ) × (more : List ℕ) × ReadsTo quote text (92 ∷ byte ∷ more) place
    × ((letter : Letter) (after : List ℕ) → 92 ∷ byte ∷ more ≡ spelling letter ++ after → ¬ IsLetter quote letter after)

-- the byte behind the number that stands first, or 0 at the end of the text
abbrev pub behind_number : List ℕ → ℕ
behind_number text = slice_index text (number_len text)

-- `.`, `e` or `E` is directly behind a number that isn't hexadecimal; a dot before a digit belongs to the number, but for a second
abbrev pub is_bad_decimal : List ℕ → Bool
is_bad_decimal text =
    (is_ascii_digit (slice_index text 0) && not (is_hexadecimal text))
    && (behind_number text == 46 || behind_number text == 101 || behind_number text == 69)

-- a dot directly before a digit
abbrev pub is_dot_digit : List ℕ → Bool
is_dot_digit text = slice_index text 0 == 46 && is_ascii_digit (slice_index text 1)

-- a number with none of these behind it, which is no integer and no decimal, or has a letter, digit or `_` directly behind it
abbrev pub is_bad_number : List ℕ → Bool
is_bad_number text =
    (is_ascii_digit (slice_index text 0) && not (is_bad_decimal text))
    && (is_word_byte (behind_number text) || not (is_number (has_fraction text) (take (number_len text) text)))

-- `/*` with no `*/` behind it
abbrev pub IsOpenComment : List ℕ → Type 0
IsOpenComment text = (inner : List ℕ) × (text ≡ 47 ∷ 42 ∷ inner) × (has_close inner ≡ false)

-- the fault at the front of a text, by its kind, with its place
abbrev pub Wrong : LexKind → List ℕ → ℕ → Type 0
Wrong kinds.Character text place =
    (BeginsNothing text × (place ≡ 0)) ⊎ (HasNul text place ⊎ (IsEmptyName text × (place ≡ 0)))
Wrong kinds.StringEnd text place = IsOpenString text × (place ≡ 0)
Wrong kinds.Escape text place = HasBadEscape text place
Wrong kinds.Number text place = (is_bad_number text ≡ true) × (place ≡ 0)
Wrong kinds.Decimal text place = ((is_bad_decimal text || is_dot_digit text) ≡ true) × (place ≡ 0)
Wrong kinds.CommentEnd text place = IsOpenComment text × (place ≡ 0)
Wrong kinds.Encoding text place = ⊥
