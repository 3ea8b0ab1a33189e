use Rattle.std.proofs.Common.{Ok, ap, sym, ◌∙◌}
use Rattle.ad_builder.specs.Machine.{stack}
use Rattle.ad_grammar.specs.Steps.{left}
use Rattle.ad_grammar.proofs.LeafLemmas.{element-alone}
use Rattle.ad_grammar.proofs.phrase.lone_element.Goals as goal

pub returns-in_ok-push_element-in-Some-clause-added : goal.returns-in_ok-push_element-in-Some-clause-added
returns-in_ok-push_element-in-Some-clause-added c = λ done.
    element-alone (left c.leaf.new.self) c.in-Some.leaf (stack c.args.machine.now) (stack c.push_element.new.self) c.in_ok-push_element-in-Some.ensures.ok
    (left c.args.reader.now) (c.in_ok-leaf.ensures.some c.in-Some.leaf (ap Ok c.in-Some.is)) (sym c.ends_behind_next.ensures ∙ c.if-not-ends_behind_next.false)
