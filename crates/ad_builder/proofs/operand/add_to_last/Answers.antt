use Rattle.std.proofs.Common.{refl}
use Rattle.ad_builder.specs.Machine.{top, with_element}
use Rattle.ad_builder.proofs.BuilderLemmas.{on_ok, if_ok, changed-measured, changed-added, put-below}
use Rattle.ad_builder.proofs.operand.add_to_last.Goals as goal

pub returns-in-Some-clause-tree : goal.returns-in-Some-clause-tree
returns-in-Some-clause-tree c =
    if_ok c.add_element.result (λ is_added adds added. let d = adds added in
    changed-added c.args.operands.now c.add_element.new.self c.in-Some.ensures.some d.2 d.3 d.4) c.add_element.ensures.tree

pub returns-in-Some-clause-measure : goal.returns-in-Some-clause-measure
returns-in-Some-clause-measure c =
    on_ok c.add_element.result (λ measured y st h is.
    changed-measured c.args.operands.now c.add_element.new.self c.in-Some.ensures.some (with_element (top st) y) st (λ was. measured (top st) y was is) h)
    c.add_element.ensures.measure

pub returns-in_ok-push-in-None-clause-measure : goal.returns-in_ok-push-in-None-clause-measure
returns-in_ok-push-in-None-clause-measure c = λ y st h is.
    put-below _ (with_element (top st) y) st (c.in-None.ensures.none refl) c.in_ok-push-in-None.ensures c.leaf.ensures
    (λ was. c.with_element-measure.ensures (top st) y was is) h
