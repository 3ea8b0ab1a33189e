-- The tables of the operators.
use Rattle.std.specs.Prelude.{ℕ, Option, None, Some}
use Rattle.pool_text.specs.declared.language.BinOp.{BinOp}
use Rattle.pool_text.specs.declared.language.BinOp.TheVariants.{BitOr, BitXor, BitAnd, Equal, Unequal, Same, NotSame, Less, AtMost, Greater, AtLeast, ShiftLeft}
use Rattle.pool_text.specs.declared.language.BinOp.TheVariants.{ShiftRight, ShiftZero, Add, Sub, Mul, Div, Rem}
use Rattle.pool_text.specs.declared.language.UnOp.{UnOp}
use Rattle.pool_text.specs.declared.language.UnOp.TheVariants as before
use Rattle.ad_builder.specs.declared.instruction.Infix.{Infix}
use Rattle.ad_builder.specs.declared.instruction.Infix.TheVariants as infixes
use Rattle.ad_lexer.specs.declared.mark.Mark.{Mark}
use Rattle.ad_lexer.specs.declared.mark.Mark.TheVariants.{And, Or, Not, Complement, Binary}

-- the precedence of an operator: how loosely it binds, from 1 for `*` to 8 for `|`
abbrev pub precedence : BinOp → ℕ
precedence Mul = 1
precedence Div = 1
precedence Rem = 1
precedence Add = 2
precedence Sub = 2
precedence ShiftLeft = 3
precedence ShiftRight = 3
precedence ShiftZero = 3
precedence Less = 4
precedence AtMost = 4
precedence Greater = 4
precedence AtLeast = 4
precedence Equal = 5
precedence Unequal = 5
precedence Same = 5
precedence NotSame = 5
precedence BitAnd = 6
precedence BitXor = 7
precedence BitOr = 8

-- the operator that a mark is between two operands, and its precedence: 9 for `&&`, 10 for `||`
abbrev pub infix_of : Mark → Option (ℕ × Infix)
infix_of (Binary op) = Some (precedence op, infixes.Binary op)
infix_of And = Some (9, infixes.And)
infix_of Or = Some (10, infixes.Or)
infix_of m = None

-- the operator that a mark is before one operand
abbrev pub prefix_of : Mark → Option UnOp
prefix_of (Binary Add) = Some before.Plus
prefix_of (Binary Sub) = Some before.Minus
prefix_of Not = Some before.Not
prefix_of Complement = Some before.Complement
prefix_of m = None
