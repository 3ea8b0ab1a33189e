use Rattle.std.proofs.Common.{◌∷◌, refl, sym, ap, ◌∙◌}
use Rattle.ad_builder.proofs.BuilderLemmas.{on_ok, close-carried, kept}
use Rattle.ad_tree.proofs.TreeLemmas.{tree-Frame}
use Rattle.ad_builder.proofs.builder.Builder.close.Goals as goal

pub returns-in-Some-Open : goal.returns-in-Some-Open
returns-in-Some-Open c = λ is_ad st h.
    on_ok c.put.result (λ put. close-carried is_ad st c.args.self.now c.in-Some-Open.frame c.in-Some-Open.outer c.pop.new.self
    (c.in-Some-Open.ensures.some ∙ ap (λ o. o ∷ c.pop.new.self) c.in-Some-Open.field-0-is)
    put refl refl refl refl refl (tree-Frame c.in-Some-Open.frame) refl refl h) c.put.ensures

pub returns-in-Some-Open-2 : goal.returns-in-Some-Open-2
returns-in-Some-Open-2 c = λ is_ad st h.
    on_ok c.push.result (λ put. kept is_ad st c.args.self.now
    (put ∙ sym (c.in-Some-Open.ensures.some ∙ ap (λ o. o ∷ c.pop.new.self) c.in-Some-Open.field-0-is)) refl refl refl refl refl refl h) c.push.ensures

pub returns-in-Some-Value : goal.returns-in-Some-Value
returns-in-Some-Value c = λ is_ad st h.
    on_ok c.push-in-Some-Value.result (λ put. kept is_ad st c.args.self.now
    (put ∙ sym (c.in-Some-Value.ensures.some ∙ ap (λ o. o ∷ c.pop.new.self) c.in-Some-Value.field-0-is)) refl refl refl refl refl refl h)
    c.push-in-Some-Value.ensures

pub returns-in-None : goal.returns-in-None
returns-in-None c = λ is_ad st h.
    kept is_ad st c.args.self.now ((c.in-None.ensures.none refl).1 ∙ sym (c.in-None.ensures.none refl).0) refl refl refl refl refl refl h
