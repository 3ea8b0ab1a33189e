use Rattle.ad_builder.proofs.BuilderLemmas.{on_ok, infix-carried}
use Rattle.ad_builder.proofs.builder.Builder.infix.Goals as goal

pub returns : goal.returns
returns c = λ is_ad st h.
    on_ok c.put.result (λ put. infix-carried is_ad st c.args.operator c.value-second.ensures c.value-first.ensures c.in_ok-expr.ensures
    (λ x y is too. c.joined-2.ensures x y is too) put h) c.put.ensures
