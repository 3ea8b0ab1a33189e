use Rattle.std.proofs.Common.{◌≡◌, length}
use Rattle.ad_builder.specs.Machine.{stack, top, below}
use Rattle.ad_grammar.specs.Steps.{applied}
use Rattle.ad_grammar.proofs.grammar.apply.Given as goal

abbrev pub invariant-loop-operator : goal.invariant-loop-operator
invariant-loop-operator l = record {
  rest : below (stack l.machine) ≡ below (stack l.initial.machine);
  all : applied l.operators.items (top (stack l.machine)) ≡ applied l.initial.operators.items (top (stack l.initial.machine));
}

abbrev pub decreases-loop-operator : goal.decreases-loop-operator
decreases-loop-operator l = length l.operators.items
