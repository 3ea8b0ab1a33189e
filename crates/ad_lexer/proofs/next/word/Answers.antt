use Rattle.std.proofs.Common.{◌<◌, subst, sym}
use Rattle.ad_lexer.proofs.Begins.{word_some}
use Rattle.ad_lexer.proofs.next.word.Goals as goal

pub returns-else-is_reserved-clause-within : goal.returns-else-is_reserved-clause-within
returns-else-is_reserved-clause-within c =
    rw c.unmarked.ensures.step (
      subst (λ n. 0 < n) (sym c.run_len-len.ensures.value) (word_some c.args.text.now c.requires.some c.requires.begins),
      c.run_len-len.ensures.within,
    )
