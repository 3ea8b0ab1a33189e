use Rattle.std.proofs.Common.{ap, sym, subst, ◌∙◌}
use Rattle.ad_builder.specs.Machine.{stack, step}
use Rattle.ad_builder.specs.Sizes.{IsHigh}
use Rattle.ad_builder.proofs.MachineLemmas.{stack-next, stays-high, goes-on, builds-low}
use Rattle.ad_builder.proofs.machine.Machine.push.Goals as goal

pub invariant_of-self : goal.invariant_of-self
invariant_of-self c =
    stays-high c.self.inside.is_ad c.self.inside.builder c.self.inside.builder c.self.inside.history.instructions c.with-self-inside.result.instructions
    c.args.instruction
    c.with-self-inside.ensures c.self.invariant c.if-self.true

pub returns-then-self-clause-ok : goal.returns-then-self-clause-ok
returns-then-self-clause-ok c =
    stack-next c.self.inside.history.instructions c.with-self-inside.result.instructions c.args.instruction c.with-self-inside.ensures
    ∙ ap (λ is. step c.args.instruction (stack is)) c.self.view_is

pub invariant_of-self-in-Ok : goal.invariant_of-self-in-Ok
invariant_of-self-in-Ok c =
    goes-on c.self.inside.is_ad c.self.inside.builder c.carry_out.new.self c.self.inside.history.instructions c.with-self-inside.result.instructions
    c.args.instruction
    c.with-self-inside.ensures c.self.invariant c.last_height.result c.if-self.false
    (λ h. c.in-Ok.ensures c.self.inside.is_ad (stack c.self.inside.history.instructions) h) (λ st h. c.last_height.ensures c.self.inside.is_ad st h)

pub returns-in-Ok-clause-ok : goal.returns-in-Ok-clause-ok
returns-in-Ok-clause-ok c =
    stack-next c.self.inside.history.instructions c.with-self-inside.result.instructions c.args.instruction c.with-self-inside.ensures
    ∙ ap (λ is. step c.args.instruction (stack is)) c.self.view_is

pub returns-in-Err-clause-high : goal.returns-in-Err-clause-high
returns-in-Err-clause-high c = λ high.
    absurd (builds-low c.self.inside.is_ad c.self.inside.builder (stack c.self.inside.history.instructions) c.self.invariant c.if-self.false
    (subst (λ is. IsHigh (stack is)) (sym c.self.view_is) high))
