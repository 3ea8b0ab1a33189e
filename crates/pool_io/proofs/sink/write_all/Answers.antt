use Rattle.pool_io.proofs.WriteLemmas.{Underway-write}
use Rattle.pool_io.proofs.sink.write_all.Goals as goal

pub loop-at-preserved : goal.loop-at-preserved
loop-at-preserved g c = Underway-write _ _ _ _ _ _ c.loop-at-test.true c.loop-at.invariant c.in_ok-at.ensures
