use Rattle.std.proofs.Common.{◌≡◌, length}
use Rattle.pool_engine.specs.Options.{are_options}
use Rattle.pool_engine.proofs.options.are_options.Given as goal

abbrev pub invariant-loop-left : goal.invariant-loop-left
invariant-loop-left l = are_options l.words ≡ are_options l.left

abbrev pub decreases-loop-left : goal.decreases-loop-left
decreases-loop-left l = length l.left
