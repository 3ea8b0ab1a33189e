use Rattle.std.proofs.Common.{◌≡◌, length}
use Rattle.pool_text.specs.Folding.{folded}
use Rattle.pool_text.specs.Digests.{digest_from}
use Rattle.pool_text.proofs.digest.name_digest.Given as goal

abbrev pub invariant-loop-rest : goal.invariant-loop-rest
invariant-loop-rest l = digest_from l.digest (folded l.rest) ≡ digest_from 0 (folded l.name)

abbrev pub decreases-loop-rest : goal.decreases-loop-rest
decreases-loop-rest l = length l.rest
