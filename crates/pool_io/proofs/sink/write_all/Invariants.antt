use Rattle.std.proofs.Common.{length, ◌-◌}
use Rattle.pool_io.proofs.WriteLemmas.{Underway}
use Rattle.pool_io.proofs.sink.write_all.Given as goal

abbrev pub invariant-loop-at : goal.invariant-loop-at
invariant-loop-at g l = Underway (g.K.Sink.shows l.initial.sink) (g.K.Sink.shows l.sink) l.bytes l.at

abbrev pub decreases-loop-at : goal.decreases-loop-at
decreases-loop-at g l = length l.bytes - l.at
