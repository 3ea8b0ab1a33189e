-- What a reference comes to.
use Rattle.std.specs.Prelude.{Option, Some, IsSome}
use Rattle.pool_text.specs.declared.language.Pos.{Pos}
use Rattle.ad_value.specs.Plain.{Plain, plain}
use Rattle.eval_scope.specs.World.{PlainWorld, expr_of}
use Rattle.ad_eval.specs.declared.reference.Reference.{Reference}

-- its value, where `at` gives the values of attributes
abbrev pub value_of : (Pos → Option Plain) → Reference → Option Plain
value_of at (Reference.Value v) = Some (plain v)
value_of at (Reference.Attribute s) = at s

-- an attribute that it comes to is one of the world
abbrev pub IsInWorld : PlainWorld → Reference → Type 0
IsInWorld w (Reference.Value v) = Unit {0}
IsInWorld w (Reference.Attribute s) = IsSome (expr_of w s)
