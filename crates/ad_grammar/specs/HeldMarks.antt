-- Words as the code reads them: which marks they are the tokens tell, and only the other words are made.
use Rattle.std.specs.Prelude.{◌≡◌, Bool, true, false, List, [], ◌∷◌, Option, None, Some}
use Rattle.std.specs.Option.{option_and_then}
use Rattle.pool_text.specs.declared.language.Lit.TheVariants.{Undefined}
use Rattle.ad_lexer.specs.declared.mark.Mark.{Mark}
use Rattle.ad_lexer.specs.declared.mark.Mark.TheVariants.{OpenParen, CloseParen, OpenBracket, CloseBracket, CloseBrace, Comma, Semicolon, Dot}
use Rattle.ad_grammar.specs.declared.nesting.Turn.{Turn}
use Rattle.ad_grammar.specs.declared.nesting.Turn.TheVariants as turns
use Rattle.ad_grammar.specs.Nesting.{opening, closing}
use Rattle.ad_grammar.specs.Words.{Word, constant, mark}

-- the first word, and the mark that a word is
abbrev pub front : List Word → Option Word
front [] = None
front (w ∷ ws) = Some w

abbrev pub mark_in : Word → Option Mark
mark_in (mark m) = Some m
mark_in w = None

abbrev pub front_mark : List Word → Option Mark
front_mark ws = option_and_then mark_in (front ws)

-- a mark behind an expression, with which no expression goes on
abbrev pub ends : Option Mark → Bool
ends (Some Semicolon) = true
ends (Some Comma) = true
ends (Some CloseBracket) = true
ends (Some CloseBrace) = true
ends (Some CloseParen) = true
ends m = false

abbrev pub ends_at : List Word → Bool
ends_at ws = ends (front_mark ws)

-- a mark with which a word goes on, as a selection, a subscript or a call
abbrev pub extends : Option Mark → Bool
extends (Some Dot) = true
extends (Some OpenBracket) = true
extends (Some OpenParen) = true
extends m = false

abbrev pub extends_at : List Word → Bool
extends_at ws = extends (front_mark ws)

-- the word of a token that is known to be no mark
abbrev pub unmarked : Word → Word
unmarked (mark m) = constant Undefined
unmarked w = w

-- what a word does with constructs
abbrev pub IsTurn : Turn → Word → Type 0
IsTurn turns.Opens w = (opening w ≡ 1) × (closing w ≡ 0)
IsTurn turns.Closes w = (opening w ≡ 0) × (closing w ≡ 1)
IsTurn turns.Neither w = (opening w ≡ 0) × (closing w ≡ 0)
