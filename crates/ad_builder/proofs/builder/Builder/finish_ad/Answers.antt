use Rattle.std.proofs.Common.{◌∙◌}
use Rattle.ad_builder.proofs.BuilderLemmas.{if_ok, ad-held, ad-made}
use Rattle.ad_builder.proofs.builder.Builder.finish_ad.Goals as goal

pub into_ad-requires : goal.into_ad-requires
into_ad-requires c =
    let alone = c.is_open_alone.ensures c.if-not-is_open_alone.false in
    (ad-made c.args.self alone.0 alone.1 alone.2 c.requires.0 alone.3 c.requires.1 c.if-not-is_built.false c.if-is_steady.true).1

pub returns-then-is_steady : goal.returns-then-is_steady
returns-then-is_steady c =
    let alone = c.is_open_alone.ensures c.if-not-is_open_alone.false in
    λ st h. if_ok c.into_ad.result
    (λ ad is. is ∙ (ad-made c.args.self alone.0 alone.1 alone.2 st alone.3 h c.if-not-is_built.false c.if-is_steady.true).0) c.into_ad.ensures

pub returns-else-is_steady : goal.returns-else-is_steady
returns-else-is_steady c =
    let alone = c.is_open_alone.ensures c.if-not-is_open_alone.false in
    λ st h. if_ok c.finish.result (λ ad is. ad-held c.args.self alone.0 alone.1 alone.2 st alone.3 h c.if-not-is_built.false is) c.finish.ensures
