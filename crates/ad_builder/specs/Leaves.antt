-- Instructions that put a leaf on the stack.
use Rattle.std.specs.Prelude.{Bool, true, false}
use Rattle.ad_builder.specs.declared.instruction.Instruction.{Instruction}
use Rattle.ad_builder.specs.declared.instruction.Instruction.TheVariants as instructions

abbrev pub is_leaf : Instruction → Bool
is_leaf (instructions.Literal lit) = true
is_leaf (instructions.Name scope text) = true
is_leaf i = false
