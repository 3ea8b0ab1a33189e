use Rattle.std.proofs.Common.{◌∷◌, refl, ap, ◌∙◌}
use Rattle.ad_builder.specs.Machine.{top, with_definition}
use Rattle.ad_builder.proofs.BuilderLemmas.{changed-measured, put-below}
use Rattle.ad_builder.proofs.StackLemmas.{first-changed}
use Rattle.ad_builder.proofs.operand.measure_last.Goals as goal

pub returns-in-Some-clause-open : goal.returns-in-Some-clause-open
returns-in-Some-clause-open c = λ is.
    let d = c.measure_definition.ensures.open is in
    let f = first-changed c.args.operands.now c.measure_definition.new.self c.in-Some.ensures.some in
    (d.0, d.1, d.2, d.3, f.0, f.1 ∙ ap (λ o. o ∷ f.0) d.4, f.2 ∙ ap (λ o. o ∷ f.0) d.5)

pub returns-in-Some-clause-measure : goal.returns-in-Some-clause-measure
returns-in-Some-clause-measure c = λ name y st h is.
    changed-measured c.args.operands.now c.measure_definition.new.self c.in-Some.ensures.some (with_definition (top st) name y) st
    (λ was. c.measure_definition.ensures.measure name (top st) y was is) h

pub returns-in_ok-push-in-None-clause-measure : goal.returns-in_ok-push-in-None-clause-measure
returns-in_ok-push-in-None-clause-measure c = λ name y st h is.
    put-below _ (with_definition (top st) name y) st (c.in-None.ensures.none refl) c.in_ok-push-in-None.ensures c.leaf.ensures
    (λ was. c.with_definition-measure.ensures name (top st) y was is) h
