use Rattle.std.proofs.Common.{◌-◌, ◌∙◌, ap, arith, drop, length, take}
use Rattle.pool_text.specs.Folding.{folded}
use Rattle.pool_text.specs.Digests.{digest_from, stirred}
use Rattle.pool_text.proofs.DigestLemmas.{digest-more, digest-end}
use Rattle.pool_text.proofs.digest.name_digest.Goals as goal

pub loop-rest-preserved : goal.loop-rest-preserved
loop-rest-preserved c =
    let bytes = c.loop-rest.rest.now in
    ap (λ h. digest_from h (folded (take (length bytes - 8) (drop 8 bytes)))) (c.stir-digest.ensures ∙ ap (stirred c.loop-rest.digest) c.whole_word.ensures)
    ∙ digest-more c.loop-rest.digest bytes (omega arith)
    ∙ c.loop-rest.invariant

pub returns : goal.returns
returns c =
    c.stir.ensures ∙ ap (stirred c.loop-rest.digest) c.word_of.ensures
    ∙ digest-end c.loop-rest.digest c.loop-rest.rest.now (omega arith)
    ∙ c.loop-rest.invariant
