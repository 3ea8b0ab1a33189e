use Rattle.ad_builder.proofs.BuilderLemmas.{on_ok, element-changed}
use Rattle.ad_builder.proofs.builder.Builder.element.Goals as goal

pub returns : goal.returns
returns c = λ is_ad st h. on_ok c.add.result (λ taken. element-changed is_ad st c.value-element.ensures taken h) c.add.ensures
