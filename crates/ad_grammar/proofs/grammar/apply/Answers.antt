use Rattle.std.proofs.Common.{ap, sym, ◌∙◌}
use Rattle.ad_builder.specs.Machine.{stack, top, below}
use Rattle.ad_grammar.specs.Steps.{applied}
use Rattle.ad_grammar.proofs.ChainLemmas.{applied-push}
use Rattle.ad_grammar.proofs.grammar.apply.Goals as goal

pub loop-operator-preserved : goal.loop-operator-preserved
loop-operator-preserved c = record {
  rest = ap below c.in_ok-push.ensures.ok ∙ c.loop-operator.invariant.rest;
  all =
      ap (λ st. applied c.pop.new.self.items (top st)) c.in_ok-push.ensures.ok
      ∙ sym (applied-push c.pop.new.self.items c.in-Some.operator (top (stack c.loop-operator.machine)))
      ∙ ap (λ ops. applied ops (top (stack c.loop-operator.machine))) (sym c.in-Some.ensures.items)
      ∙ c.loop-operator.invariant.all;
}
