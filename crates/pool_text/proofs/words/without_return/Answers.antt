use Rattle.std.proofs.Common.{arith}
use Rattle.pool_text.proofs.ReturnLemmas.{without_return-at_return, without_return-at_other}
use Rattle.pool_text.proofs.words.without_return.Goals as goal

pub returns-in-len1-up : goal.returns-in-len1-up
returns-in-len1-up c = let h = c.if-last-eq13.true in let k = c.in-len1-up.len_at_least in without_return-at_return _ (omega arith) h

pub returns-in_default-2 : goal.returns-in_default-2
returns-in_default-2 c = let h = c.if-last-eq13.false in without_return-at_other _ (omega arith) h
