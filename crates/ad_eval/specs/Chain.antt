-- Chains of `&&` and of `||`.
use Rattle.std.specs.Prelude.{Bool, true, false, List, Option}
use Rattle.ad_value.specs.Plain.{Plain, boolean}
use Rattle.ad_value.specs.Logic.{and_is_decided, and_value, or_is_decided, or_value}
use Rattle.ad_value.specs.Demands.{conjunction, disjunction}
use Rattle.ad_eval.specs.declared.chain.Chain.{Chain}

-- the value of a chain of no expressions
abbrev pub start : Chain → Plain
start Chain.And = boolean true
start Chain.Or = boolean false

-- whether a value decides a chain
abbrev pub is_decided : Chain → Plain → Bool
is_decided Chain.And v = and_is_decided v
is_decided Chain.Or v = or_is_decided v

-- the value of two
abbrev pub joined : Chain → Plain → Plain → Plain
joined Chain.And u v = and_value u v
joined Chain.Or u v = or_value u v

-- the value of a chain whose first expressions have the value v, with the results of the others
abbrev pub chained : Chain → Plain → List (Option Plain) → Option Plain
chained Chain.And v rs = conjunction v rs
chained Chain.Or v rs = disjunction v rs
