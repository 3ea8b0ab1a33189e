use Rattle.std.proofs.Common.{refl, arith, ap, sym, ◌∙◌}
use Rattle.ad_grammar.specs.Rules.{prefixes}
use Rattle.ad_grammar.specs.Steps.{left, wrapped}
use Rattle.ad_grammar.proofs.ChainLemmas.{prefixes-turn, prefix-shorter}
use Rattle.ad_grammar.proofs.grammar.read_operators.Goals as goal

pub loop-turns-preserved : goal.loop-turns-preserved
loop-turns-preserved c =
    let found = c.in-Some.ensures.some c.in-Some.operator refl in
    record {
      read = λ e.
          c.loop-turns.invariant.read e
          ∙ prefixes-turn e c.loop-turns.operators.items c.in-Some.operator (left c.loop-turns.reader) (left c.prefix.new.self) found
          ∙ ap (λ ops. wrapped ops (prefixes e (left c.prefix.new.self))) (sym c.in_ok-push.ensures.items);
      count = omega (arith, c.loop-turns.invariant.count, prefix-shorter (left c.loop-turns.reader) (left c.prefix.new.self) c.in-Some.operator found);
    }
