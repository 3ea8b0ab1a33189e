use Rattle.std.proofs.Common.{◌≡◌, ◌-◌, ◌+◌, ◌<◌, take}
use Rattle.pool_text.proofs.spelling.are_alike_by_eights.Given as goal

abbrev pub invariant-loop-start : goal.invariant-loop-start
invariant-loop-start l = record { within : l.start < l.last + 8; same : take l.start l.a ≡ take l.start l.b }

abbrev pub decreases-loop-start : goal.decreases-loop-start
decreases-loop-start l = l.last - l.start
