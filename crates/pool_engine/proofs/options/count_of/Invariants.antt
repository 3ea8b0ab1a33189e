use Rattle.std.proofs.Common.{◌≡◌, length}
use Rattle.pool_engine.specs.Options.{count_of}
use Rattle.pool_engine.proofs.options.count_of.Given as goal

abbrev pub invariant-loop-left : goal.invariant-loop-left
invariant-loop-left l = count_of l.words ≡ count_of l.left

abbrev pub decreases-loop-left : goal.decreases-loop-left
decreases-loop-left l = length l.left
