-- What the strings and quoted names of a text mean: texts that are UTF-8 and hold no byte 0.
use Rattle.std.specs.Prelude.{◌≡◌, ℕ, ◌<◌, true, not, ◌==◌, List, [], ◌∷◌, length, IsUtf8}
use Rattle.std.specs.List.{list_all}
use Rattle.ad_lexer.specs.declared.token.TokenKind.{TokenKind}
use Rattle.ad_lexer.specs.declared.token.TokenKind.TheVariants as kinds
use Rattle.ad_lexer.specs.Content.{content}
use Rattle.ad_lexer.specs.Lexeme.{Lexeme}

-- UTF-8 with no byte 0
abbrev pub IsText : List ℕ → Type 0
IsText bytes = IsUtf8 bytes × (list_all (λ byte. not (byte == 0)) bytes ≡ true)

-- a string means a text, and a quoted name one that isn't empty
abbrev pub MeansText : TokenKind → List ℕ → Type 0
MeansText kinds.Plain bytes = Unit {0}
MeansText kinds.Reserved bytes = Unit {0}
MeansText kinds.Quoted bytes = IsText (content bytes) × (0 < length (content bytes))
MeansText kinds.Str bytes = IsText (content bytes)
MeansText kinds.Int bytes = Unit {0}
MeansText kinds.Dec bytes = Unit {0}
MeansText kinds.Symbol bytes = Unit {0}

-- each token of a list does
abbrev pub MeanTexts : List Lexeme → Type 0
MeanTexts [] = Unit {0}
MeanTexts (lexeme ∷ lexemes) = MeansText lexeme.kind lexeme.text × MeanTexts lexemes
