-- The operators as tables over plain values.
use Rattle.std.specs.Prelude.{ℕ, ◌+◌, ◌/◌, ◌^◌, Bool, true, false, not, ◌&&◌, ◌==◌, nat_lt, ℤ}
use Rattle.std.specs.Prelude.{pos, negsuc, ◌+ℤ◌, ◌-ℤ◌, ◌*ℤ◌, neg_ℤ, int_lt, int_le, int_div}
use Rattle.std.specs.Prelude.{int_rem, List, length, Option, Some, None, if◌then◌else◌}
use Rattle.std.specs.Int.{w64, cast_signed, cast_unsigned, int_bit_and, int_bit_not, int_bit_or, int_bit_xor, int_shl, int_shr}
use Rattle.std.specs.Ordering.{int_eq, is_eq, is_ge, is_gt, is_le, is_lt, is_ne}
use Rattle.std.specs.Bool.{beq}
use Rattle.std.specs.Str.{bytes_eq}
use Rattle.pool_text.specs.Folding.{text_order}
use Rattle.pool_text.specs.declared.language.BinOp.{BinOp}
use Rattle.pool_text.specs.declared.language.UnOp.{UnOp}
use Rattle.ad_value.specs.declared.number.Number.{Number}
use Rattle.ad_value.specs.Plain.{Plain, undefined, error, boolean, integer, decimal, text, list, ad_at, Plains, no_plains, plain_then}
use Rattle.ad_value.specs.Numbers.{decimal_or_error, in_millionths, integer_or_error, million, number_of, number_value}

-- ---- `is`

-- `a is b`: of one kind and equal, lists element by element, texts with their case
abbrev mutual
  pub is_same : Plain → Plain → Bool
  is_same undefined undefined = true
  is_same error error = true
  is_same (boolean a) (boolean b) = beq a b
  is_same (integer a) (integer b) = int_eq a b
  is_same (decimal a) (decimal b) = int_eq a b
  is_same (text a) (text b) = bytes_eq a b
  is_same (list a) (list b) = are_same a b
  is_same (ad_at a) (ad_at b) = a.ad == b.ad && a.frame == b.frame
  is_same a b = false

  pub are_same : Plains → Plains → Bool
  are_same no_plains no_plains = true
  are_same (plain_then a more) (plain_then b others) = is_same a b && are_same more others
  are_same a b = false

-- ---- operands

-- Error wins over Undefined, and Undefined over the row of the operator
abbrev pub strict : (Plain → Plain → Plain) → Plain → Plain → Plain
strict row error b = error
strict row a error = error
strict row undefined b = undefined
strict row a undefined = undefined
strict row a b = row a b

-- a row for two numbers: Error where a side is none
abbrev pub on_numbers : (Number → Number → Plain) → Option Number → Option Number → Plain
on_numbers row (Some x) (Some y) = row x y
on_numbers row x y = error

-- ---- results

-- a shift by a number of places: Error where it is below 0 or over 63
abbrev pub shifted : (ℕ → ℤ) → ℤ → Plain
shifted shift (pos places) = if nat_lt places 64 then integer (shift places) else error
shifted shift (negsuc n) = error

-- a division: Error where the divisor is 0
abbrev pub divided : Plain → ℤ → Plain
divided result divisor = if int_eq divisor (pos 0) then error else result

-- ---- the table of the strict operators

-- two whole numbers; `is` and `isnt` aren't strict, and have rows of their own
abbrev pub integer_row : BinOp → ℤ → ℤ → Plain
integer_row BinOp.BitOr x y = integer (int_bit_or w64 x y)
integer_row BinOp.BitXor x y = integer (int_bit_xor w64 x y)
integer_row BinOp.BitAnd x y = integer (int_bit_and w64 x y)
integer_row BinOp.Equal x y = boolean (int_eq x y)
integer_row BinOp.Unequal x y = boolean (not (int_eq x y))
integer_row BinOp.Less x y = boolean (int_lt x y)
integer_row BinOp.AtMost x y = boolean (int_le x y)
integer_row BinOp.Greater x y = boolean (int_lt y x)
integer_row BinOp.AtLeast x y = boolean (int_le y x)
integer_row BinOp.ShiftLeft x y = shifted (int_shl w64 x) y
integer_row BinOp.ShiftRight x y = shifted (int_shr x) y
integer_row BinOp.ShiftZero x y = shifted (λ places. cast_signed w64 (cast_unsigned w64 x / 2 ^ places)) y
integer_row BinOp.Add x y = integer_or_error (x +ℤ y)
integer_row BinOp.Sub x y = integer_or_error (x -ℤ y)
integer_row BinOp.Mul x y = integer_or_error (x *ℤ y)
integer_row BinOp.Div x y = divided (integer_or_error (int_div x y)) y
integer_row BinOp.Rem x y = divided (integer (int_rem x y)) y
integer_row op x y = error

-- two numbers in millionths: what is exact, or cut towards zero to millionths; bits and shifts take no Decimal
abbrev pub decimal_row : BinOp → ℤ → ℤ → Plain
decimal_row BinOp.Equal x y = boolean (int_eq x y)
decimal_row BinOp.Unequal x y = boolean (not (int_eq x y))
decimal_row BinOp.Less x y = boolean (int_lt x y)
decimal_row BinOp.AtMost x y = boolean (int_le x y)
decimal_row BinOp.Greater x y = boolean (int_lt y x)
decimal_row BinOp.AtLeast x y = boolean (int_le y x)
decimal_row BinOp.Add x y = decimal_or_error (x +ℤ y)
decimal_row BinOp.Sub x y = decimal_or_error (x -ℤ y)
decimal_row BinOp.Mul x y = decimal_or_error (int_div (x *ℤ y) million)
decimal_row BinOp.Div x y = divided (decimal_or_error (int_div (x *ℤ million) y)) y
decimal_row BinOp.Rem x y = divided (decimal (int_rem x y)) y
decimal_row op x y = error

-- two numbers: Integers where both are whole, and else Decimals
abbrev pub number_row : BinOp → Number → Number → Plain
number_row op (Number.Whole x) (Number.Whole y) = integer_row op x y
number_row op x y = decimal_row op (in_millionths x) (in_millionths y)

-- two texts, which only the comparisons take
abbrev pub text_row : BinOp → List ℕ → List ℕ → Plain
text_row BinOp.Equal a b = boolean (is_eq (text_order a b))
text_row BinOp.Unequal a b = boolean (is_ne (text_order a b))
text_row BinOp.Less a b = boolean (is_lt (text_order a b))
text_row BinOp.AtMost a b = boolean (is_le (text_order a b))
text_row BinOp.Greater a b = boolean (is_gt (text_order a b))
text_row BinOp.AtLeast a b = boolean (is_ge (text_order a b))
text_row op a b = error

-- two operands of which none is Error or Undefined
abbrev pub strict_row : BinOp → Plain → Plain → Plain
strict_row op (text a) (text b) = text_row op a b
strict_row op a b = on_numbers (number_row op) (number_of a) (number_of b)

-- the value of `a op b`
abbrev pub binary_value : BinOp → Plain → Plain → Plain
binary_value BinOp.Same a b = boolean (is_same a b)
binary_value BinOp.NotSame a b = boolean (not (is_same a b))
binary_value op a b = strict (strict_row op) a b

-- ---- operators before one operand

-- a row for one number: Error where it is none
abbrev pub on_number : (Number → Plain) → Option Number → Plain
on_number row (Some x) = row x
on_number row None = error

-- a number with the other sign
abbrev pub negation : Number → Plain
negation (Number.Whole n) = integer_or_error (neg_ℤ n)
negation (Number.Millionths m) = decimal_or_error (neg_ℤ m)

-- a whole number with all its bits turned
abbrev pub complement : Number → Plain
complement (Number.Whole n) = integer (int_bit_not w64 n)
complement (Number.Millionths m) = error

-- `!` takes a Boolean alone
abbrev pub negated_value : Plain → Plain
negated_value (boolean b) = boolean (not b)
negated_value other = error

-- an operand that is neither Error nor Undefined
abbrev pub unary_row : UnOp → Plain → Plain
unary_row UnOp.Plus a = on_number number_value (number_of a)
unary_row UnOp.Minus a = on_number negation (number_of a)
unary_row UnOp.Not a = negated_value a
unary_row UnOp.Complement a = on_number complement (number_of a)

-- the value of `op a`
abbrev pub unary_value : UnOp → Plain → Plain
unary_value op error = error
unary_value op undefined = undefined
unary_value op a = unary_row op a

-- ---- weight

-- 1, and the bytes of a text, and the weights of a list's elements
abbrev mutual
  pub weight_of : Plain → ℕ
  weight_of (text bytes) = 1 + length bytes
  weight_of (list items) = 1 + weights_of items
  weight_of other = 1

  pub weights_of : Plains → ℕ
  weights_of no_plains = 0
  weights_of (plain_then item items) = weight_of item + weights_of items
