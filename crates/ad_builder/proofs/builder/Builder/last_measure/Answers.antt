use Rattle.std.proofs.Common.{refl, sym, subst}
use Rattle.ad_builder.specs.Measures.{IsMeasure}
use Rattle.ad_builder.specs.Machine.{top}
use Rattle.ad_builder.proofs.BuilderLemmas.{last-measured, none-measured}
use Rattle.ad_builder.proofs.builder.Builder.last_measure.Goals as goal

pub returns-in-Some : goal.returns-in-Some
returns-in-Some c = λ st h.
    subst (λ m. IsMeasure m (top st)) (sym c.measure.ensures) (last-measured c.args.self.now.operands _ st c.in-Some.ensures.some h)

pub returns-in-None : goal.returns-in-None
returns-in-None c = λ st h. (none-measured st (c.in-None.ensures.none refl) (c.in-None.ensures.none refl) c.leaf.ensures h).0
