use Rattle.std.proofs.Common.{ap, map, ◌∙◌}
use Rattle.ad_builder.specs.Builds.{slot}
use Rattle.ad_builder.proofs.BuilderLemmas.{if_ok_both, phrase-held, phrase-made, phrase_tree-held}
use Rattle.ad_builder.proofs.builder.Builder.finish_phrase.Goals as goal

pub into_phrase-requires-clause-is_ad : goal.into_phrase-requires-clause-is_ad
into_phrase-requires-clause-is_ad c =
    (phrase-made c.args.self c.requires.0 (ap (map slot) c.in-Some.ensures.1) c.requires.1 c.if-not-is_built.false c.if-is_steady.true).is_ad

pub into_phrase-requires-clause-is_phrase : goal.into_phrase-requires-clause-is_phrase
into_phrase-requires-clause-is_phrase c =
    (phrase-made c.args.self c.requires.0 (ap (map slot) c.in-Some.ensures.1) c.requires.1 c.if-not-is_built.false c.if-is_steady.true).is_phrase

pub returns-then-is_steady : goal.returns-then-is_steady
returns-then-is_steady c =
    let only = ap (map slot) c.in-Some.ensures.1 in
    λ st h.
    let whole = phrase-made c.args.self st only h c.if-not-is_built.false c.if-is_steady.true in
    if_ok_both c.into_phrase.result (λ phrase is same. (is ∙ whole.framed, same ∙ whole.numbered)) c.into_phrase.ensures.frames c.into_phrase.ensures.expr

pub returns-else-is_steady : goal.returns-else-is_steady
returns-else-is_steady c =
    let only = ap (map slot) c.in-Some.ensures.1 in
    λ st h. if_ok_both c.finish_phrase.result
    (λ phrase is same. (phrase-held c.args.self st only h c.if-not-is_built.false is, phrase_tree-held c.args.self st only h c.if-not-is_built.false same))
    c.finish_phrase.ensures.frames c.finish_phrase.ensures.expr
