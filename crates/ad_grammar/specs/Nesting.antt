-- How many constructs of a text are open at once.
use Rattle.std.specs.Prelude.{ℕ, ◌+◌, Bool, false, ◌||◌, nat_lt, List, [], ◌∷◌}
use Rattle.ad_lexer.specs.declared.mark.Mark.TheVariants.{OpenParen, CloseParen, OpenBracket, CloseBracket, OpenBrace, CloseBrace, Question, Colon}
use Rattle.ad_grammar.specs.Words.{Word, mark}

-- how many constructs may be open at once
abbrev pub nesting_limit : ℕ
nesting_limit = 130

-- a word opens a construct: a bracket of the three kinds, or the question mark of a conditional
abbrev pub opening : Word → ℕ
opening (mark OpenParen) = 1
opening (mark OpenBracket) = 1
opening (mark OpenBrace) = 1
opening (mark Question) = 1
opening word = 0

-- and closes it
abbrev pub closing : Word → ℕ
closing (mark CloseParen) = 1
closing (mark CloseBracket) = 1
closing (mark CloseBrace) = 1
closing (mark Colon) = 1
closing word = 0

-- after so many opening and closing words, some word brings the former above the latter by more than the limit
abbrev pub nests_deeper : ℕ → ℕ → List Word → Bool
nests_deeper opened closed [] = false
nests_deeper opened closed (w ∷ ws) =
    nat_lt (closed + closing w + nesting_limit) (opened + opening w) || nests_deeper (opened + opening w) (closed + closing w) ws

-- behind some of the words, more constructs are open than may be
abbrev pub nests_too_deep : List Word → Bool
nests_too_deep ws = nests_deeper 0 0 ws
