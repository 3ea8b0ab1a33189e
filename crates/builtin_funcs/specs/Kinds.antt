-- The kinds of values, as tests.
use Rattle.std.specs.Prelude.{Bool, true, false}
use Rattle.ad_value.specs.Plain.{Plain, undefined, error, boolean, integer, decimal, text, list, ad_at}

-- the value is Undefined
abbrev pub is_undefined : Plain → Bool
is_undefined undefined = true
is_undefined other = false

-- the value is Error
abbrev pub is_error : Plain → Bool
is_error error = true
is_error other = false

-- the value is a Boolean
abbrev pub is_boolean : Plain → Bool
is_boolean (boolean b) = true
is_boolean other = false

-- the value is an Integer
abbrev pub is_integer : Plain → Bool
is_integer (integer n) = true
is_integer other = false

-- the value is a Decimal
abbrev pub is_decimal : Plain → Bool
is_decimal (decimal m) = true
is_decimal other = false

-- the value is a String
abbrev pub is_text : Plain → Bool
is_text (text bytes) = true
is_text other = false

-- the value is a List
abbrev pub is_list : Plain → Bool
is_list (list items) = true
is_list other = false

-- the value is an Ad
abbrev pub is_ad : Plain → Bool
is_ad (ad_at place) = true
is_ad other = false

-- a Boolean, an Integer, a Decimal or a String
abbrev pub is_scalar : Plain → Bool
is_scalar (boolean b) = true
is_scalar (integer n) = true
is_scalar (decimal m) = true
is_scalar (text bytes) = true
is_scalar other = false
