-- A token as contracts see it.
use Rattle.std.specs.Prelude.{ℕ, List}
use Rattle.ad_lexer.specs.declared.token.Token.{Token}
use Rattle.ad_lexer.specs.declared.token.TokenKind.{TokenKind}

-- the kind of a token, the places where it begins and behind which it ends, and its bytes
pub record Lexeme : Type 0 where
  pub kind : TokenKind
  pub start : ℕ
  pub end : ℕ
  pub text : List ℕ

-- a token without where its bytes lie in memory
abbrev pub lexeme : Token → Lexeme
lexeme t = record { kind = t.kind; start = t.start; end = t.end; text = t.text.now }
