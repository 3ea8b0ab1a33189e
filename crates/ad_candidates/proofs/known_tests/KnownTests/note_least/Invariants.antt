use Rattle.std.proofs.Common.{◌≤◌, List, All}
use Rattle.ad_store.specs.Stock.{Advert}
use Rattle.ad_candidates.specs.Counts.{left_by}
use Rattle.ad_candidates.specs.KnownTests.{AreTestsKnown}
use Rattle.ad_candidates.proofs.known_tests.KnownTests.note_least.Given as goal

abbrev pub invariant-loop-test : goal.invariant-loop-test
invariant-loop-test l = (ads : List Advert) → AreTestsKnown ads l.fn.self → All (λ test. l.least ≤ left_by ads test) l.tests → AreTestsKnown ads l.self
