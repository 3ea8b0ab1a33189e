-- What may follow a token without changing it. The end of a text counts as byte 0.
use Rattle.std.specs.Prelude.{◌≡◌, ℕ, Bool, true, not, ◌&&◌, ◌||◌, ◌==◌, nat_eq, List, [], ◌∷◌, ◌++◌}
use Rattle.std.specs.Char.{is_ascii_digit}
use Rattle.std.specs.List.{list_any, starts_with}
use Rattle.std.specs.Str.{bytes_eq}
use Rattle.ad_lexer.specs.declared.token.TokenKind.{TokenKind}
use Rattle.ad_lexer.specs.declared.token.TokenKind.TheVariants as kinds
use Rattle.ad_lexer.specs.Numbers.{is_hexadecimal}
use Rattle.ad_lexer.specs.Symbols.{symbols}
use Rattle.ad_lexer.specs.Words.{is_word_byte}

-- behind a word: no letter, digit or `_`
abbrev pub ends_word : ℕ → Bool
ends_word byte = not (is_word_byte byte)

-- behind an integer: no letter, digit or `_`, and behind one that isn't hexadecimal no dot
abbrev pub ends_integer : List ℕ → ℕ → Bool
ends_integer bytes byte = not (is_word_byte byte) && (is_hexadecimal bytes || not (byte == 46))

-- behind a decimal: no letter, digit or `_`, and no dot
abbrev pub ends_decimal : ℕ → Bool
ends_decimal byte = not (is_word_byte byte) && not (byte == 46)

-- some symbol begins with the bytes and then this byte
abbrev pub goes_on : List ℕ → ℕ → Bool
goes_on bytes byte = list_any (λ symbol. starts_with nat_eq symbol (bytes ++ byte ∷ [])) symbols

-- behind a symbol: no byte with which a symbol goes on, no digit behind a dot, and neither `/` nor `*` behind `/`
abbrev pub ends_symbol : List ℕ → ℕ → Bool
ends_symbol bytes byte =
    (not (goes_on bytes byte) && not (bytes_eq bytes (46 ∷ []) && is_ascii_digit byte))
    && not (bytes_eq bytes (47 ∷ []) && (byte == 47 || byte == 42))

-- the byte behind a token of the kind doesn't change it
abbrev pub Ends : TokenKind → List ℕ → ℕ → Type 0
Ends kinds.Plain bytes byte = ends_word byte ≡ true
Ends kinds.Reserved bytes byte = ends_word byte ≡ true
Ends kinds.Quoted bytes byte = Unit {0}
Ends kinds.Str bytes byte = Unit {0}
Ends kinds.Int bytes byte = ends_integer bytes byte ≡ true
Ends kinds.Dec bytes byte = ends_decimal byte ≡ true
Ends kinds.Symbol bytes byte = ends_symbol bytes byte ≡ true
