-- The places that are listed of one of a request's tests, where no look-up leaves fewer.
use Rattle.std.proofs.Common.{◌≡◌, ◌<◌, ◌≤◌, ℕ, min, List, [], ◌∷◌, length, All, Bor, IfSome, Option, None, Some, ap, sym, ◌∙◌}
use Rattle.std.proofs.Common.{subst, arith}
use Rattle.std.specs.List.{range_with_len}
use Rattle.std.specs.Option.{option_map_or}
use Rattle.std.proofs.lemmas.List.Elements.{All-cons, All-nil}
use Rattle.ad_store.specs.Stock.{Advert}
use Rattle.conjunct_plan.specs.declared.test.Test.{Test}
use Rattle.ad_candidates.specs.declared.known_tests.KnownTests.{KnownTests}
use Rattle.ad_candidates.specs.Candidates.{AreOfTests}
use Rattle.ad_candidates.specs.Counts.{least_left, least_within, left_by}
use Rattle.ad_candidates.specs.KnownTests.{ArePlacesOfOne, AreTestsKnown}
use Rattle.ad_candidates.proofs.NarrowLemmas.{within-le, within-lower}
use Rattle.ad_candidates.proofs.PlaceLemmas.{of-all, of-one}

-- each test leaves no fewer ads than the narrowest
pub each-leaves : (n most : ℕ) (ads : List Advert) (tests : List Test) → n ≤ least_within most ads tests → All (λ test. n ≤ left_by ads test) tests
each-leaves n most ads [] low = All-nil (λ test. n ≤ left_by ads test)
each-leaves n most ads (t ∷ tests) low =
    All-cons (λ test. n ≤ left_by ads test) t tests (omega (arith, low, within-le (min most (left_by ads t)) ads tests))
    (each-leaves n (min most (left_by ads t)) ads tests low)

abbrev pub many_listed : Option (Bor (List ℕ)) → ℕ → ℕ
many_listed listed count = option_map_or (λ places. length places.now) listed count

module _ (ads : List Advert) (tests : List Test) (count : ℕ) (whole : count ≡ length ads) where
  pub many-within : (listed : Option (Bor (List ℕ))) → IfSome listed (λ places. length places.now < count) → many_listed listed count ≤ length ads
  many-within None few = omega (arith, whole)
  many-within (Some places) few = omega (arith, few, whole)

  pub of-listed : (listed : Option (Bor (List ℕ))) (places : List ℕ) → IfSome listed (λ places. length places.now < count)
      → IfSome listed (λ places. ArePlacesOfOne ads tests places.now)
      → many_listed listed count ≡ least_within (many_listed listed count) ads tests
      → places ≡ option_map_or (λ places. places.now) listed (range_with_len 0 count) → AreOfTests ads tests places
  of-listed None places few one least are =
      of-all ads tests places (omega (arith, sym (ap (λ (n : ℕ). least_within n ads tests) whole), least, whole)) (are ∙ ap (range_with_len 0) whole)
  of-listed (Some listed) places few one least are =
      let below : length listed.now ≤ length ads = omega (arith, few, whole) in
      let low : length listed.now ≤ least_left ads tests = omega (arith, least, within-lower (length listed.now) (length ads) ads tests below) in
      subst (λ (l : List ℕ). AreOfTests ads tests l) (sym are) (of-one ads tests listed.now one low)

-- places that are listed of one of the tests in any memo are so in one that is right
pub one-of : (ads : List Advert) (known : KnownTests) (tests : List Test) (listed : Option (Bor (List ℕ))) → AreTestsKnown ads known
    → IfSome listed (λ places. (ads : List Advert) → AreTestsKnown ads known → ArePlacesOfOne ads tests places.now)
    → IfSome listed (λ places. ArePlacesOfOne ads tests places.now)
one-of ads known tests None are one = tt
one-of ads known tests (Some listed) are one = one ads are
