use Rattle.std.proofs.Common.{◌∷◌, map, refl, ap, ◌∙◌}
use Rattle.ad_builder.specs.Builds.{slot, measure_of}
use Rattle.ad_builder.proofs.BuilderLemmas.{put-given, open-given, none-given}
use Rattle.ad_builder.proofs.builder.Builder.value.Goals as goal

pub returns-in-Some-Value : goal.returns-in-Some-Value
returns-in-Some-Value c =
    let pop = c.in-Some-Value.ensures.some ∙ ap (λ o. o ∷ c.pop.new.self) c.in-Some-Value.field-0-is in
    put-given (record {
      operands = ap (map slot) pop;
      measures = ap (map measure_of) pop;
      parent = refl;
      drafted = refl;
      frames = refl;
      definitions = refl;
      steady = refl;
      built = refl;
    })

pub returns-in-Some-Open : goal.returns-in-Some-Open
returns-in-Some-Open c =
    open-given c.in-Some-Open.measure refl refl refl _ _ (c.in-Some-Open.ensures.some ∙ ap (λ o. o ∷ c.pop.new.self) c.in-Some-Open.field-0-is)

pub returns-in-None : goal.returns-in-None
returns-in-None c = none-given c.leaf.result refl refl refl c.leaf.ensures (c.in-None.ensures.none refl).0 (c.in-None.ensures.none refl).1
