use Rattle.std.proofs.Common.{refl}
use Rattle.ad_builder.proofs.BuilderLemmas.{open-carried}
use Rattle.ad_builder.proofs.builder.Builder.open.Goals as goal

pub returns : goal.returns
returns c = λ is_ad st h.
    open-carried is_ad st c.args.self.now c.ad.result c.in_ok-frame.frame c.in_ok-frame.ensures.number c.in_ok-frame.ensures.ok c.in_ok-push.ensures refl
    c.ad.ensures c.saturating_add-self.ensures refl refl refl h
