use Rattle.std.proofs.Common.{arith}
use Rattle.eval_scope.specs.Shown.{world_of}
use Rattle.dock_match.specs.Late.{late_test}
use Rattle.dock_match.proofs.LateLemmas.{tests-next}
use Rattle.dock_match.proofs.late.late_tests.Goals as goal

pub loop-conjunct-preserved : goal.loop-conjunct-preserved
loop-conjunct-preserved c =
    tests-next (late_test (world_of c.args.world.now)) c.deref-conjunct-items.result.now c.loop-conjunct.conjunct-index c.conjunct-item.result
    c.loop-conjunct.tests c.keep.new.tests c.in_ok-found.found (omega (arith, c.loop-conjunct-test.true, c.loop-conjunct.auto.conjunct-index-end))
    c.conjunct-item.is c.loop-conjunct.invariant c.in_ok-found.ensures c.in_ok-keep.ensures
