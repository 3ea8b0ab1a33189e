use Rattle.std.proofs.Common.{◌≡◌, refl, sym, rules, ◌∙◌}
use Rattle.ad_builder.specs.declared.measure.Kind.TheVariants.{Ad}
use Rattle.ad_builder.proofs.CountLemmas.{defined-counted, listed-counted}
use Rattle.ad_builder.proofs.builder.Builder.count_definition.Goals as goal

pub returns-then-eq : goal.returns-then-eq
returns-then-eq c = record {
  operands = refl;
  parent = refl;
  drafted = refl;
  frames = refl;
  steady = refl;
  built = refl;
  counted = λ f x text st h.
      defined-counted f c.args.self.now.definitions x text _ st (sym (c.last_measure.ensures st h).kind ∙ search rules) c.saturating_add-self.ensures;
}

pub returns-else-eq : goal.returns-else-eq
returns-else-eq c =
    let other : c.last_measure.result.kind ≡ Ad → ⊥ = search rules in
    record {
      operands = refl;
      parent = refl;
      drafted = refl;
      frames = refl;
      steady = refl;
      built = refl;
      counted = λ f x text st h.
          listed-counted f c.args.self.now.definitions x text st (λ is_ad. other ((c.last_measure.ensures st h).kind ∙ is_ad));
    }
