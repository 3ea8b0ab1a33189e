use Rattle.std.proofs.Common.{◌≡◌, ◌≤◌, ◌+◌, drop}
use Rattle.ad_grammar.specs.Nesting.{nests_deeper, nests_too_deep}
use Rattle.ad_grammar.specs.Words.{words}
use Rattle.ad_grammar.proofs.nesting.definitions_within.Given as goal

abbrev pub invariant-loop-i : goal.invariant-loop-i
invariant-loop-i l = record {
  rest : nests_deeper 130 l.room (drop l.i (words l.tokens)) ≡ nests_too_deep (words l.tokens);
  few : l.room ≤ l.i + 130;
}
