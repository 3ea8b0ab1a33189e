use Rattle.std.proofs.Common.{◌%◌, ◌+◌, ◌*◌, ◌^◌, ◌-◌, ◌∙◌, ap, length, take, drop}
use Rattle.pool_text.specs.Folding.{folded}
use Rattle.pool_text.specs.Digests.{word_from}
use Rattle.pool_text.proofs.DigestLemmas.{word-more}
use Rattle.pool_text.proofs.digest.word_with.Goals as goal

pub loop-rest-preserved : goal.loop-rest-preserved
loop-rest-preserved c =
    let bytes = c.loop-rest.rest.now in
    ap (λ l. word_from (((c.loop-rest.word * 256) % (2 ^ 64) + l) % (2 ^ 64)) (folded (take (length bytes - 1) (drop 1 bytes)))) c.from.ensures
    ∙ word-more c.loop-rest.word bytes c.in-len1-up.len_at_least
    ∙ c.loop-rest.invariant
