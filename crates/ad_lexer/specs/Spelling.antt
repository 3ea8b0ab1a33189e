-- How each kind of token is spelled.
use Rattle.std.specs.Prelude.{◌≡◌, ℕ, ◌<◌, true, false, List, length}
use Rattle.ad_lexer.specs.declared.token.TokenKind.{TokenKind}
use Rattle.ad_lexer.specs.declared.token.TokenKind.TheVariants as kinds
use Rattle.ad_lexer.specs.Numbers.{is_decimal_number, is_integer}
use Rattle.ad_lexer.specs.Quoted.{IsQuoted}
use Rattle.ad_lexer.specs.Symbols.{is_symbol}
use Rattle.ad_lexer.specs.Words.{is_word, is_reserved}

-- the bytes spell a token of the kind
abbrev pub Spells : TokenKind → List ℕ → Type 0
Spells kinds.Plain bytes = (is_word bytes ≡ true) × (is_reserved bytes ≡ false)
Spells kinds.Reserved bytes = (is_word bytes ≡ true) × (is_reserved bytes ≡ true)
Spells kinds.Quoted bytes = (text : List ℕ) × IsQuoted 39 bytes text × (0 < length text)
Spells kinds.Str bytes = (text : List ℕ) × IsQuoted 34 bytes text
Spells kinds.Int bytes = is_integer bytes ≡ true
Spells kinds.Dec bytes = is_decimal_number bytes ≡ true
Spells kinds.Symbol bytes = is_symbol bytes ≡ true
