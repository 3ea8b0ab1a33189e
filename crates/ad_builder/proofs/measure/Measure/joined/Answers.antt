use Rattle.std.proofs.Common.{refl, subst, sym}
use Rattle.ad_tree.specs.Tree.{all, any, binary}
use Rattle.ad_builder.specs.Shapes.{joined}
use Rattle.ad_builder.specs.Measures.{IsMeasure}
use Rattle.ad_builder.proofs.MeasureLemmas.{and-measured, or-measured}
use Rattle.ad_builder.proofs.measure.Measure.joined.Goals as goal

pub returns-in-And : goal.returns-in-And
returns-in-And c = λ x y a b.
    subst (λ op. IsMeasure c.chained.result (joined op x y)) (sym c.in-And.is)
    (and-measured x y
    (λ xs is. c.chained.ensures.longer all xs y refl (subst (IsMeasure c.args.self) is a) b)
    (λ other. c.chained.ensures.begun all x y refl other a b))

pub returns-in-Or : goal.returns-in-Or
returns-in-Or c = λ x y a b.
    subst (λ op. IsMeasure c.chained-in-Or.result (joined op x y)) (sym c.in-Or.is)
    (or-measured x y
    (λ xs is. c.chained-in-Or.ensures.longer any xs y refl (subst (IsMeasure c.args.self) is a) b)
    (λ other. c.chained-in-Or.ensures.begun any x y refl other a b))

pub returns-in-Binary : goal.returns-in-Binary
returns-in-Binary c = λ x y a b.
    subst (λ op. IsMeasure c.over_two.result (joined op x y)) (sym c.in-Binary.is)
    (c.over_two.ensures (binary c.in-Binary.field-0) x y refl a b)
