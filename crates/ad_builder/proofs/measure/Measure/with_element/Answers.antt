use Rattle.std.proofs.Common.{arith, rules, refl}
use Rattle.ad_tree.specs.Tree.{list}
use Rattle.ad_builder.proofs.MeasureLemmas.{element-measured, element-refused}
use Rattle.ad_builder.proofs.measure.Measure.with_element.Goals as goal

pub returns : goal.returns
returns c = λ x y a b.
    element-measured c.args.self c.args.element c.beside.result x y a b (search rules) (omega arith) c.beside.ensures.kind

pub returns-then-eq : goal.returns-then-eq
returns-then-eq c = λ x y a b. element-refused c.args.self c.over_two.result x y a (search rules) (c.over_two.ensures list x y refl a b)
