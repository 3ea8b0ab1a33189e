use Rattle.std.proofs.Common.{◌≤◌, ◌<◌, ◌≡◌, List, IfSome, length}
use Rattle.ad_store.specs.Stock.{Advert}
use Rattle.ad_candidates.specs.KnownTests.{ArePlacesOfOne, AreTestsKnown}
use Rattle.ad_candidates.proofs.known_tests.KnownTests.fewest.Given as goal

abbrev pub invariant-loop-test : goal.invariant-loop-test
invariant-loop-test l = record {
  within : l.least ≤ l.most;
  few : IfSome l.fewest (λ places. (length places.now ≡ l.least) × (l.least < l.most));
  places : IfSome l.fewest (λ places. (ads : List Advert) → AreTestsKnown ads l.self → ArePlacesOfOne ads l.test-items places.now);
}
