-- The plain value of a value, which is apart from how it lies in memory.
use Rattle.std.specs.Prelude.{List, [], ◌∷◌}
use Rattle.pool_text.specs.declared.language.Lit.{Lit}
use Rattle.ad_value.specs.declared.value.Value.{Value}
use Rattle.ad_value.specs.declared.value.Values.{Values}
pub use Rattle.ad_value.specs.Shapes.{Plain, undefined, error, boolean, integer, decimal, text, list, ad_at, Plains, no_plains, plain_then}

-- a list of values as the elements of a list value
abbrev pub plains_of : List Plain → Plains
plains_of [] = no_plains
plains_of (p ∷ ps) = plain_then p (plains_of ps)

-- the elements of a list value as a list of values
abbrev pub elements : Plains → List Plain
elements no_plains = []
elements (plain_then p ps) = p ∷ elements ps

-- the plain value
abbrev pub plain : Value → Plain
plain Value.Undefined = undefined
plain Value.Error = error
plain (Value.Boolean b) = boolean b
plain (Value.Integer n) = integer n
plain (Value.Decimal m) = decimal m
plain (Value.Str bytes) = text bytes
plain (Value.List items) = list (plains_of items.value)
plain (Value.Ad place) = ad_at place

-- the plain values of a list
abbrev pub plains : Values → List Plain
plains values = values

-- the value of a literal
abbrev pub plain_of_lit : Lit → Plain
plain_of_lit Lit.Undefined = undefined
plain_of_lit Lit.Error = error
plain_of_lit (Lit.Boolean b) = boolean b
plain_of_lit (Lit.Integer n) = integer n
plain_of_lit (Lit.Decimal m) = decimal m
plain_of_lit (Lit.Str bytes) = text bytes
