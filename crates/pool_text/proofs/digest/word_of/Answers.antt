use Rattle.std.proofs.Common.{ℕ, ◌<◌, ◌-◌, ◌^◌, ◌∙◌, ap, arith, drop, length, subst, take}
use Rattle.pool_text.specs.Folding.{folded}
use Rattle.pool_text.specs.Digests.{word_from}
use Rattle.pool_text.proofs.DigestLemmas.{word-half}
use Rattle.pool_text.proofs.digest.word_of.Goals as goal

pub returns : goal.returns
returns c =
    let bytes = c.args.letters.now in
    c.word_with-2.ensures
    ∙ ap (λ (w : ℕ). word_from w (folded (take (length bytes - 4) (drop 4 bytes)))) (c.from.ensures ∙ c.half_word.ensures)
    ∙ word-half bytes (omega arith) (subst (λ (n : ℕ). n < 2 ^ 32) c.half_word.ensures c.half_word.type_inv)
