-- The numbers by which the kinds of lexical faults are named.
use Rattle.std.specs.Prelude.{ℕ}
use Rattle.ad_lexer.specs.declared.fault.LexKind.{LexKind}
use Rattle.ad_lexer.specs.declared.fault.LexKind.TheVariants.{Character, StringEnd, Escape, Number, Decimal, CommentEnd, Encoding}

-- the number of a kind
abbrev pub kind_number : LexKind → ℕ
kind_number Character = 1
kind_number StringEnd = 2
kind_number Escape = 3
kind_number Number = 4
kind_number Decimal = 5
kind_number CommentEnd = 6
kind_number Encoding = 7
