use Rattle.std.proofs.Common.{◌≡◌, length}
use Rattle.pool_text.specs.Folding.{folded}
use Rattle.pool_text.specs.Digests.{word_from}
use Rattle.pool_text.proofs.digest.word_with.Given as goal

abbrev pub invariant-loop-rest : goal.invariant-loop-rest
invariant-loop-rest l = word_from l.word (folded l.rest) ≡ word_from l.first (folded l.letters)

abbrev pub decreases-loop-rest : goal.decreases-loop-rest
decreases-loop-rest l = length l.rest
