use Rattle.std.proofs.Common.{arith, rules, refl}
use Rattle.ad_tree.specs.Tree.{list}
use Rattle.ad_builder.proofs.MeasureLemmas.{definition-measured, definition-refused}
use Rattle.ad_builder.proofs.measure.Measure.with_definition.Goals as goal

pub returns : goal.returns
returns c = λ text x y a b.
    definition-measured c.args.self c.args.value c.beside.result text x y a b (search rules) (omega arith) c.beside.ensures.kind

pub returns-then-ne : goal.returns-then-ne
returns-then-ne c = λ text x y a b. definition-refused c.args.self c.over_two.result text x y a (search rules) (c.over_two.ensures list x y refl a b)
