use Rattle.std.proofs.Common.{sym, subst}
use Rattle.ad_builder.specs.Machine.{stack}
use Rattle.ad_builder.specs.Sizes.{IsHigh}
use Rattle.ad_builder.proofs.HighLemmas.{step-high}
use Rattle.ad_builder.proofs.machine.Machine.push_element.Goals as goal

pub returns-then-not-is_leaf-clause-high : goal.returns-then-not-is_leaf-clause-high
returns-then-not-is_leaf-clause-high c = λ high.
    c.push-then-not-is_leaf.ensures.high (subst IsHigh (sym c.in_ok-push.ensures.ok) (step-high c.args.instruction (stack c.args.self.now) high))
