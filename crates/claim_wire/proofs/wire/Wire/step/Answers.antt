use Rattle.std.proofs.Common.{length, sym, ◌∙◌, ap, subst}
use Rattle.claim_wire.specs.Facts.{Facts, IsSafe, HasOneHolder}
use Rattle.claim_wire.specs.Wires as spec
use Rattle.claim_wire.specs.Wires.{WireState}
use Rattle.claim_wire.proofs.StepLemmas.{length-happens, step-happens}
use Rattle.claim_wire.proofs.WireLemmas.{facts-safe, facts-one, happens-facts}
use Rattle.claim_wire.proofs.wire.Wire.step.Goals as goal

pub returns-in-Some-clause-safe : goal.returns-in-Some-clause-safe
returns-in-Some-clause-safe c = facts-safe c.args.self.now c.kept.ensures

pub returns-in-Some-clause-one_holder : goal.returns-in-Some-clause-one_holder
returns-in-Some-clause-one_holder c = facts-one c.args.self.now c.kept.ensures

pub returns-in-Ok-clause-new : goal.returns-in-Ok-clause-new
returns-in-Ok-clause-new c = c.in-Ok.ensures.new ∙ step-happens c.args.event.now c.args.self.now (sym c.in_default.ensures)

pub returns-in-Ok-clause-facts : goal.returns-in-Ok-clause-facts
returns-in-Ok-clause-facts c = subst Facts (sym c.in-Ok.ensures.new) (happens-facts c.args.event.now c.args.self.now c.kept.ensures)

pub returns-in-Ok-clause-safe : goal.returns-in-Ok-clause-safe
returns-in-Ok-clause-safe c =
    let w = c.args.self.now in
    let event = c.args.event.now in
    subst IsSafe (sym c.in-Ok.ensures.new) (facts-safe (spec.happens event w) (happens-facts event w c.kept.ensures))

pub returns-in-Ok-clause-one_holder : goal.returns-in-Ok-clause-one_holder
returns-in-Ok-clause-one_holder c =
    let w = c.args.self.now in
    let event = c.args.event.now in
    subst HasOneHolder (sym c.in-Ok.ensures.new) (facts-one (spec.happens event w) (happens-facts event w c.kept.ensures))

pub returns-in-Ok-clause-resources : goal.returns-in-Ok-clause-resources
returns-in-Ok-clause-resources c = ap (λ (v : WireState). length v.resources) c.in-Ok.ensures.new ∙ (length-happens c.args.event.now c.args.self.now).1

pub returns-in-Ok-clause-customers : goal.returns-in-Ok-clause-customers
returns-in-Ok-clause-customers c = ap (λ (v : WireState). length v.customers) c.in-Ok.ensures.new ∙ (length-happens c.args.event.now c.args.self.now).0

pub returns-in-Err-clause-facts : goal.returns-in-Err-clause-facts
returns-in-Err-clause-facts c = subst Facts (sym c.in-Err.ensures.unchanged) c.kept.ensures

pub returns-in-Err-clause-safe : goal.returns-in-Err-clause-safe
returns-in-Err-clause-safe c = subst IsSafe (sym c.in-Err.ensures.unchanged) (facts-safe c.args.self.now c.kept.ensures)

pub returns-in-Err-clause-one_holder : goal.returns-in-Err-clause-one_holder
returns-in-Err-clause-one_holder c = subst HasOneHolder (sym c.in-Err.ensures.unchanged) (facts-one c.args.self.now c.kept.ensures)
