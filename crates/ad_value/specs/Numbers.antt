-- Numbers: whole ones, and ones of millionths.
use Rattle.std.specs.Prelude.{◌^◌, true, false, nat_lt, ℤ, pos, negsuc, ◌*ℤ◌, int_div, Option, Some, None, if◌then◌else◌}
use Rattle.ad_value.specs.declared.number.Number.{Number}
use Rattle.ad_value.specs.Plain.{Plain, error, boolean, integer, decimal}

-- the number of a value: an Integer itself, a Decimal by its millionths, and a Boolean as 1 or 0
abbrev pub number_of : Plain → Option Number
number_of (integer n) = Some (Number.Whole n)
number_of (decimal m) = Some (Number.Millionths m)
number_of (boolean true) = Some (Number.Whole (pos 1))
number_of (boolean false) = Some (Number.Whole (pos 0))
number_of other = None

-- how many millionths are one
abbrev pub million : ℤ
million = pos 1000000

-- how many millionths a number has
abbrev pub in_millionths : Number → ℤ
in_millionths (Number.Whole n) = n *ℤ million
in_millionths (Number.Millionths m) = m

-- a number cut towards zero to a whole one
abbrev pub whole_part : Number → ℤ
whole_part (Number.Whole n) = n
whole_part (Number.Millionths m) = int_div m million

-- a number as a value
abbrev pub number_value : Number → Plain
number_value (Number.Whole n) = integer n
number_value (Number.Millionths m) = decimal m

-- a whole number as an Integer of 64 bits, Error where it is out of them; `negsuc n` is -(n + 1)
abbrev pub integer_or_error : ℤ → Plain
integer_or_error (pos n) = if nat_lt n (2 ^ 63) then integer (pos n) else error
integer_or_error (negsuc n) = if nat_lt n (2 ^ 63) then integer (negsuc n) else error

-- millionths as a Decimal of 64 bits, Error where they are out of them
abbrev pub decimal_or_error : ℤ → Plain
decimal_or_error (pos m) = if nat_lt m (2 ^ 63) then decimal (pos m) else error
decimal_or_error (negsuc m) = if nat_lt m (2 ^ 63) then decimal (negsuc m) else error
