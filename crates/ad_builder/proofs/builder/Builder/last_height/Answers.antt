use Rattle.ad_builder.proofs.builder.Builder.last_height.Goals as goal

pub returns : goal.returns
returns c = λ is_ad st h. (c.last_measure.ensures st h.measured).height
