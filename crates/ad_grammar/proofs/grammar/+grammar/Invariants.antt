use Rattle.std.proofs.Common.{◌≡◌, ◌≤◌, ◌+◌, ◌*◌, ◌-◌, ◌^◌, ◌∷◌, suc, length}
use Rattle.ad_tree.specs.Inline.{Inline}
use Rattle.ad_grammar.specs.Levels.{climb}
use Rattle.ad_builder.specs.Machine.{stack, top, below, chosen}
use Rattle.ad_grammar.specs.Rules as rules
use Rattle.ad_grammar.specs.Steps.{left, extended, completed}
use Rattle.ad_grammar.proofs.MachineLemmas.{choices}
use Rattle.ad_grammar.proofs.grammar.+grammar.Given as goal

abbrev pub decreases-expression : goal.decreases-expression
decreases-expression l = 60 * l.fuel

abbrev pub decreases-conditionals : goal.decreases-conditionals
decreases-conditionals l = 60 * l.fuel + 50

abbrev pub decreases-level : goal.decreases-level
decreases-level l = 60 * l.fuel + 13 + 3 * l.precedence

abbrev pub decreases-climb : goal.decreases-climb
decreases-climb l = 60 * l.fuel + 12 + 3 * l.precedence

abbrev pub decreases-prefixes : goal.decreases-prefixes
decreases-prefixes l = 60 * l.fuel + 11

abbrev pub decreases-prefixed : goal.decreases-prefixed
decreases-prefixed l = 60 * l.fuel + 10

abbrev pub decreases-postfix : goal.decreases-postfix
decreases-postfix l = 60 * l.fuel + 9

abbrev pub decreases-suffixes : goal.decreases-suffixes
decreases-suffixes l = 60 * l.fuel + 1

abbrev pub decreases-primary : goal.decreases-primary
decreases-primary l = 60 * l.fuel + 8

abbrev pub decreases-marked : goal.decreases-marked
decreases-marked l = 60 * l.fuel + 7

abbrev pub decreases-arguments : goal.decreases-arguments
decreases-arguments l = 60 * l.fuel + 6

abbrev pub decreases-elements : goal.decreases-elements
decreases-elements l = 60 * l.fuel + 6

abbrev pub decreases-several : goal.decreases-several
decreases-several l = 60 * l.fuel + 5

abbrev pub decreases-element : goal.decreases-element
decreases-element l = 60 * l.fuel + 4

abbrev pub decreases-definitions : goal.decreases-definitions
decreases-definitions l = 60 * l.fuel + 6

abbrev pub decreases-some_definitions : goal.decreases-some_definitions
decreases-some_definitions l = 60 * l.fuel + 5

abbrev pub invariant-conditionals-loop-turns : goal.invariant-conditionals-loop-turns
invariant-conditionals-loop-turns l = record {
  read :
      rules.conditionals (rules.expression l.fuel) (suc (length (left l.initial.reader))) (left l.initial.reader)
      ≡ choices l.pending (stack l.machine) (rules.conditionals (rules.expression l.fuel) l.turns (left l.reader));
  rest : (x : Inline) → below (chosen l.pending (x ∷ stack l.machine)) ≡ stack l.initial.machine;
  few : l.pending + l.turns ≤ 2 ^ 63;
}

abbrev pub decreases-conditionals-loop-turns : goal.decreases-conditionals-loop-turns
decreases-conditionals-loop-turns l = l.turns

abbrev pub invariant-climb-loop-next : goal.invariant-climb-loop-next
invariant-climb-loop-next l = record {
  read :
      climb (rules.expression l.fuel) 0 l.precedence (top (stack l.initial.machine)) (left l.initial.reader)
      ≡ climb (rules.expression l.fuel) l.reached (l.precedence - l.reached) (top (stack l.machine)) (left l.reader);
  rest : below (stack l.machine) ≡ below (stack l.initial.machine);
  within : l.reached ≤ l.precedence;
}

abbrev pub decreases-climb-loop-next : goal.decreases-climb-loop-next
decreases-climb-loop-next l = length (left l.reader)

abbrev pub invariant-suffixes-loop-turns : goal.invariant-suffixes-loop-turns
invariant-suffixes-loop-turns l = record {
  read :
      rules.suffixes (rules.expression l.fuel) (length (left l.initial.reader)) (top (stack l.initial.machine)) (left l.initial.reader)
      ≡ rules.suffixes (rules.expression l.fuel) l.turns (top (stack l.machine)) (left l.reader);
  rest : below (stack l.machine) ≡ below (stack l.initial.machine);
}

abbrev pub decreases-suffixes-loop-turns : goal.decreases-suffixes-loop-turns
decreases-suffixes-loop-turns l = l.turns

abbrev pub invariant-several-loop-turns : goal.invariant-several-loop-turns
invariant-several-loop-turns l = record {
  read :
      extended (top (stack l.initial.machine)) (rules.several (rules.expression l.fuel) (length (left l.initial.reader)) (left l.initial.reader))
      ≡ extended (top (stack l.machine)) (rules.several (rules.expression l.fuel) l.turns (left l.reader));
  rest : below (stack l.machine) ≡ below (stack l.initial.machine);
}

abbrev pub decreases-several-loop-turns : goal.decreases-several-loop-turns
decreases-several-loop-turns l = l.turns

abbrev pub invariant-some_definitions-loop-turns : goal.invariant-some_definitions-loop-turns
invariant-some_definitions-loop-turns l = record {
  read :
      completed (top (stack l.initial.machine)) (rules.definitions_at (rules.expression l.fuel) (length (left l.initial.reader)) (left l.initial.reader))
      ≡ completed (top (stack l.machine)) (rules.definitions_at (rules.expression l.fuel) l.turns (left l.reader));
  rest : below (stack l.machine) ≡ below (stack l.initial.machine);
}

abbrev pub decreases-some_definitions-loop-turns : goal.decreases-some_definitions-loop-turns
decreases-some_definitions-loop-turns l = l.turns
