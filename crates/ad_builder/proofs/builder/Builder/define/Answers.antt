use Rattle.std.proofs.Common.{refl}
use Rattle.ad_builder.proofs.BuilderLemmas.{define-measured, define-carried}
use Rattle.ad_builder.proofs.builder.Builder.define.Goals as goal

pub returns-then-not-is_open : goal.returns-then-not-is_open
returns-then-not-is_open c = λ is_ad st h.
    define-measured is_ad st c.args.self.now c.value-value.new.self c.count_definition.new.self _ c.args.name c.value-value.ensures c.count_definition.ensures
    c.in_ok-is_open.ensures.measure refl refl h refl

pub returns : goal.returns
returns c = λ is_ad st h.
    let d = c.in_ok-is_open.ensures.open c.if-not-is_open.false in
    define-carried is_ad st c.args.self.now c.value-value.new.self c.count_definition.new.self _ c.args.name c.value-value.ensures c.count_definition.ensures
    c.in_ok-is_open.ensures.measure refl refl h refl d.2 d.3 d.4 d.5 d.6 c.in_ok-is_steady.ensures.ok refl
    c.in_ok-is_steady.is_steady refl c.in_ok-is_steady.ensures.steady
