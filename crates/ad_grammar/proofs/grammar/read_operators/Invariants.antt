use Rattle.std.proofs.Common.{◌≡◌, length}
use Rattle.ad_grammar.specs.Rules.{Rule, prefixes}
use Rattle.ad_grammar.specs.Steps.{left, wrapped}
use Rattle.ad_grammar.proofs.grammar.read_operators.Given as goal

abbrev pub invariant-loop-turns : goal.invariant-loop-turns
invariant-loop-turns l = record {
  read : (e : Rule) → prefixes e (left l.initial.reader) ≡ wrapped l.operators.items (prefixes e (left l.reader));
  count : l.turns ≡ length (left l.reader);
}

abbrev pub decreases-loop-turns : goal.decreases-loop-turns
decreases-loop-turns l = l.turns
