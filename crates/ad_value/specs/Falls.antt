-- A list weighs more than each list in it.
use Rattle.std.specs.Prelude.{◌≤◌, List, [], ◌∷◌, map}
use Rattle.std.proofs.Common.{arith}
use denote.Param.Weighed.{most}
use Rattle.ad_value.specs.declared.value.Value.{Value}
use Rattle.ad_value.specs.declared.value.Values.TheDeep.{deep-Value}
use Rattle.ad_value.specs.Plain.{plain, plains_of}
use Rattle.ad_value.specs.Operators.{weight_of, weights_of}

-- a value weighs at least as much as it is deep
deep_le-weight : (v : Value) → deep-Value v ≤ weight_of (plain v)
deep_le-weight Value.Undefined = omega arith
deep_le-weight Value.Error = omega arith
deep_le-weight (Value.Boolean b) = omega arith
deep_le-weight (Value.Integer n) = omega arith
deep_le-weight (Value.Decimal m) = omega arith
deep_le-weight (Value.Str bytes) = omega arith
deep_le-weight (Value.List items) = omega arith
deep_le-weight (Value.Ad place) = omega arith

-- so does a list of values
pub most_le-weights : (items : List Value) → most (λ v. deep-Value v) items ≤ weights_of (plains_of (map plain items))
most_le-weights [] = omega arith
most_le-weights (v ∷ items) = omega (arith, deep_le-weight v, most_le-weights items)
