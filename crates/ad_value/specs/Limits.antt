-- How heavy a value may be.
use Rattle.std.specs.Prelude.{ℕ, nat_lt, if◌then◌else◌}
use Rattle.ad_value.specs.Plain.{Plain, error}
use Rattle.ad_value.specs.Operators.{weight_of}

-- the greatest weight of a list literal and of a function's result
abbrev pub weight_limit : ℕ
weight_limit = 65536

-- the value, or Error in the place of one that is too heavy
abbrev pub bounded : Plain → Plain
bounded value = if nat_lt weight_limit (weight_of value) then error else value
