use Rattle.std.proofs.Common.{◌≡◌, length}
use Rattle.pool_text.specs.Words.{past_blanks}
use Rattle.pool_text.proofs.words.past_blanks.Given as goal

abbrev pub invariant-loop-rest : goal.invariant-loop-rest
invariant-loop-rest l = past_blanks l.rest ≡ past_blanks l.bytes

abbrev pub decreases-loop-rest : goal.decreases-loop-rest
decreases-loop-rest l = length l.rest
