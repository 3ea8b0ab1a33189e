-- What each token of a text is by itself: a part of the text, spelled by its kind, behind the tokens before it.
use Rattle.std.specs.Prelude.{◌≡◌, ℕ, ◌+◌, ◌≤◌, List, [], ◌∷◌, length, slice_range}
use Rattle.ad_lexer.specs.Lexeme.{Lexeme}
use Rattle.ad_lexer.specs.Spelling.{Spells}

-- a token of a text that begins at a place or behind it
pub record IsTokenOf (text : List ℕ) (at : ℕ) (lexeme : Lexeme) : Type 0 where
  pub behind : at ≤ lexeme.start
  pub end_is : lexeme.end ≡ lexeme.start + length lexeme.text
  pub bytes_are : lexeme.text ≡ slice_range text lexeme.start lexeme.end
  pub spelled : Spells lexeme.kind lexeme.text

-- each token is one, and begins where the one before ends, or behind
abbrev pub AreTokensOf : List ℕ → ℕ → List Lexeme → Type 0
AreTokensOf text at [] = Unit {0}
AreTokensOf text at (lexeme ∷ lexemes) = IsTokenOf text at lexeme × AreTokensOf text lexeme.end lexemes
