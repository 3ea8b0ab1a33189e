-- What is known of the ads that tests leave.
use Rattle.std.specs.Prelude.{ℕ, ℤ, ◌≡◌, ◌≤◌, Bool, true, not, nat_lt, if◌then◌else◌, List, length, remove, All, Contains}
use Rattle.std.specs.List.Sorted.{IsPermutation}
use Rattle.ad_store.specs.Stock.{Advert}
use Rattle.pool_text.specs.declared.language.BinOp.{BinOp}
use Rattle.pool_text.specs.declared.language.Lit.{Lit}
use Rattle.ad_value.specs.Plain.{Plain}
use Rattle.ad_value.specs.Logic.{is_true}
use Rattle.conjunct_plan.specs.declared.test.Test.{Test}
use Rattle.conjunct_plan.specs.Decided.{is_decided, value_with}
use Rattle.ad_candidates.specs.declared.known_tests.KnownTests.{KnownTests}
use Rattle.ad_candidates.specs.Candidates.{places_where}
use Rattle.ad_candidates.specs.Counts.{left_by}

-- these are the places of the ads that a test leaves, in any order
abbrev pub ArePlaces : List Advert → Test → List ℕ → Type 0
ArePlaces ads test places = IsPermutation (places_where (λ advert. not (is_decided test advert.ad 0)) 0 ads) places

-- the same for one of these tests
pub record ArePlacesOfOne (ads : List Advert) (tests : List Test) (places : List ℕ) : Type 0 where
  pub test : Test
  pub among : Contains tests test
  pub are : ArePlaces ads test places

-- no test that was counted leaves fewer ads than is said of it, and the places that are listed of a test are those that it leaves
pub record AreTestsKnown (ads : List Advert) (known : KnownTests) : Type 0 where
  pub counted : All (λ counted. counted.least ≤ left_by ads counted.test) known.counted.items
  pub listed : All (λ listed. ArePlaces ads listed.test listed.places) known.listed.items

-- whatever an operator is true of beside the whole number m, it is true of beside n
abbrev pub BoundsAsClosely : BinOp → Bool → ℤ → ℤ → Type 0
BoundsAsClosely op attr_left m n =
    (name : List ℕ) (x : Plain) → is_true (value_with (Test.Compare name op (Lit.Integer m) attr_left) x) ≡ true
    → is_true (value_with (Test.Compare name op (Lit.Integer n) attr_left) x) ≡ true

-- a list with its first item left out, where it is full
abbrev pub with_room : {X : Type 0} → List X → List X
with_room xs = if nat_lt (length xs) 64 then xs else remove xs 0
