-- `&&` and `||` over four kinds of operands: true, false, Undefined, and all others, which are as Error.
use Rattle.std.specs.Prelude.{Bool, true, false, not}
use Rattle.ad_value.specs.Plain.{Plain, undefined, error, boolean}

-- the value of `left && right`, by the first line that fits
abbrev pub and_value : Plain → Plain → Plain
and_value (boolean false) right = boolean false
and_value (boolean true) (boolean b) = boolean b
and_value (boolean true) undefined = undefined
and_value undefined (boolean false) = boolean false
and_value undefined (boolean true) = undefined
and_value undefined undefined = undefined
and_value left right = error

-- the value of `left || right`, by the first line that fits
abbrev pub or_value : Plain → Plain → Plain
or_value (boolean true) right = boolean true
or_value (boolean false) (boolean b) = boolean b
or_value (boolean false) undefined = undefined
or_value undefined (boolean true) = boolean true
or_value undefined (boolean false) = undefined
or_value undefined undefined = undefined
or_value left right = error

-- the left side alone decides `&&`, so the right side isn't demanded
abbrev pub and_is_decided : Plain → Bool
and_is_decided (boolean true) = false
and_is_decided undefined = false
and_is_decided left = true

-- the left side alone decides `||`, so the right side isn't demanded
abbrev pub or_is_decided : Plain → Bool
or_is_decided (boolean false) = false
or_is_decided undefined = false
or_is_decided left = true

-- the value with true and false exchanged
abbrev pub mirrored : Plain → Plain
mirrored (boolean b) = boolean (not b)
mirrored value = value

-- the Boolean true, and no other value
abbrev pub is_true : Plain → Bool
is_true (boolean b) = b
is_true other = false
