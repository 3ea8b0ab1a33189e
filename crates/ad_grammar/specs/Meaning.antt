-- What is known of tokens.
use Rattle.std.specs.Prelude.{List, [], ◌∷◌}
use Rattle.ad_lexer.specs.Lexeme.{Lexeme}
use Rattle.ad_lexer.specs.Spelling.{Spells}

-- each token is spelled by its kind
abbrev pub AreSpelled : List Lexeme → Type 0
AreSpelled [] = Unit {0}
AreSpelled (token ∷ tokens) = Spells token.kind token.text × AreSpelled tokens
