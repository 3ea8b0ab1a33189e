-- What reading all words of a text answers.
use Rattle.std.specs.Prelude.{◌≡◌, List, [], Option, None, Some, Result, Ok, Err}
use Rattle.ad_tree.specs.Inline.{Inline}
use Rattle.ad_builder.specs.Machine.{stack, top, below}
use Rattle.ad_builder.specs.declared.instruction.Instruction.{Instruction}
use Rattle.ad_grammar.specs.declared.stop.Stop.{Stop}
use Rattle.ad_grammar.specs.declared.stop.Stop.TheVariants as stops

-- a machine with the wanted tree on its stack, and nothing below it; or the words don't fit
pub record IsRead (wanted : Option Inline) (answer : Result (List Instruction) Stop) : Type 0 where
  pub ok : (machine : List Instruction) → answer ≡ Ok machine → wanted ≡ Some (top (stack machine))
  pub alone : (machine : List Instruction) → answer ≡ Ok machine → below (stack machine) ≡ []
  pub none : answer ≡ Err stops.Grammar → wanted ≡ None
