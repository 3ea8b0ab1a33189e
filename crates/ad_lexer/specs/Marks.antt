-- The mark that a token is.
use Rattle.std.specs.Prelude.{ℕ, ◌+◌, List, [], ◌∷◌, map, codes, Option, None, Some, if◌then◌else◌}
use Rattle.std.specs.Str.{bytes_eq}
use Rattle.pool_text.specs.Folding.{folded}
use Rattle.pool_text.specs.declared.language.BinOp.TheVariants.{BitOr, BitXor, BitAnd, Equal, Unequal, Same, NotSame, Less, AtMost, Greater, AtLeast, ShiftLeft}
use Rattle.pool_text.specs.declared.language.BinOp.TheVariants.{ShiftRight, ShiftZero, Add, Sub, Mul, Div, Rem}
use Rattle.ad_lexer.specs.declared.mark.Mark.{Mark}
use Rattle.ad_lexer.specs.declared.mark.Mark.TheVariants.{OpenParen, CloseParen, OpenBracket, CloseBracket, OpenBrace, CloseBrace, Comma, Semicolon, Dot}
use Rattle.ad_lexer.specs.declared.mark.Mark.TheVariants.{Assign, Question, Colon, And, Or, Not, Complement, Binary}
use Rattle.ad_lexer.specs.declared.token.TokenKind.{TokenKind}
use Rattle.ad_lexer.specs.declared.token.TokenKind.TheVariants as kinds
use Rattle.ad_lexer.specs.Lexeme.{Lexeme}

-- the meaning of a spelling in a table
abbrev pub meaning_of : {M : Type 0} → List (List ℕ × M) → List ℕ → Option M
meaning_of [] bytes = None
meaning_of (row ∷ rows) bytes = if bytes_eq bytes row.0 then Some row.1 else meaning_of rows bytes

-- the symbols
abbrev pub marks : List (List ℕ × Mark)
marks =
    (codes "(", OpenParen) ∷ (codes ")", CloseParen) ∷ (codes "[", OpenBracket) ∷ (codes "]", CloseBracket)
    ∷ (codes "{", OpenBrace) ∷ (codes "}", CloseBrace) ∷ (codes ",", Comma) ∷ (codes ";", Semicolon) ∷ (codes ".", Dot)
    ∷ (codes "=", Assign) ∷ (codes "?", Question) ∷ (codes ":", Colon) ∷ (codes "||", Or) ∷ (codes "&&", And)
    ∷ (codes "|", Binary BitOr) ∷ (codes "^", Binary BitXor) ∷ (codes "&", Binary BitAnd)
    ∷ (codes "==", Binary Equal) ∷ (codes "!=", Binary Unequal) ∷ (codes "=?=", Binary Same) ∷ (codes "=!=", Binary NotSame)
    ∷ (codes "<", Binary Less) ∷ (codes "<=", Binary AtMost) ∷ (codes ">", Binary Greater) ∷ (codes ">=", Binary AtLeast)
    ∷ (codes "<<", Binary ShiftLeft) ∷ (codes ">>", Binary ShiftRight) ∷ (codes ">>>", Binary ShiftZero)
    ∷ (codes "+", Binary Add) ∷ (codes "-", Binary Sub) ∷ (codes "*", Binary Mul) ∷ (codes "/", Binary Div)
    ∷ (codes "%", Binary Rem) ∷ (codes "!", Not) ∷ (codes "~", Complement) ∷ []

-- the reserved words that are operators
abbrev pub mark_words : List (List ℕ × Mark)
mark_words = (codes "is", Binary Same) ∷ (codes "isnt", Binary NotSame) ∷ []

-- the mark of a token: that of a symbol, or of a reserved word in any case
abbrev pub mark_of_kind : TokenKind → List ℕ → Option Mark
mark_of_kind kinds.Symbol bytes = meaning_of marks bytes
mark_of_kind kinds.Reserved bytes = meaning_of mark_words (folded bytes)
mark_of_kind kind bytes = None

abbrev pub mark_of_lexeme : Lexeme → Option Mark
mark_of_lexeme token = mark_of_kind token.kind token.text

-- the marks that tokens are, each at its token's place
abbrev pub marks_of : List Lexeme → List (Option Mark)
marks_of tokens = map mark_of_lexeme tokens

-- how many constructs a mark opens: a bracket of the three kinds, or the question mark of a conditional
abbrev pub opening : Option Mark → ℕ
opening (Some OpenParen) = 1
opening (Some OpenBracket) = 1
opening (Some OpenBrace) = 1
opening (Some Question) = 1
opening mark = 0

-- and how many they open in all
abbrev pub openings_in : List (Option Mark) → ℕ
openings_in [] = 0
openings_in (mark ∷ more) = opening mark + openings_in more
