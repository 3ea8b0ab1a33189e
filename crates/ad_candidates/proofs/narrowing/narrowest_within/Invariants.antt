use Rattle.std.proofs.Common.{◌≤◌, take, Contains, IfSome}
use Rattle.ad_store.specs.Store.{stock_of}
use Rattle.ad_candidates.specs.Counts.{least_within}
use Rattle.ad_candidates.specs.Rows.{rows_of}
use Rattle.ad_candidates.proofs.NarrowLemmas.{IsBefore, IsBest, IsFewSoFar}
use Rattle.ad_candidates.proofs.narrowing.narrowest_within.Given as goal

-- no more than the least among the tests so far
abbrev pub invariant-loop-test : goal.invariant-loop-test
invariant-loop-test l = record {
  best : IsBest l.most (rows_of (stock_of l.store)) l.test-items l.best;
  few : l.best.left ≤ least_within l.most (stock_of l.store).ads (take l.test-index l.test-items);
  pairs : IsFewSoFar (rows_of (stock_of l.store)) l.test-items l.test-index l.best.left;
  among : IfSome l.before (λ test. Contains l.test-items test.now);
  before : IsBefore l.test-items l.test-index l.before;
}
