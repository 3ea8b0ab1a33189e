-- Which ads a query looks at.
use Rattle.std.specs.Prelude.{ℕ, ◌≡◌, ◌≤◌, ◌+◌, Bool, true, false, not, ◌&&◌, suc, List, [], ◌∷◌, length, map, filter, nat_lt}
use Rattle.std.specs.Prelude.{Option, None, Some, if◌then◌else◌, slice_get, Contains, IsTrue}
use Rattle.std.specs.Borrow.{Bor}
use Rattle.std.specs.List.{list_any}
use Rattle.std.specs.List.Sorted.{IsPermutation}
use Rattle.ad_tree.specs.Frames.{Frame}
use Rattle.ad_store.specs.Stock.{Advert}
use Rattle.conjunct_plan.specs.declared.test.Test.{Test}
use Rattle.conjunct_plan.specs.Decided.{is_decided, is_dock_decided}
use Rattle.conjunct_plan.specs.Tests.{tests_of}
use Rattle.literal_index.specs.Entries.{is_pair}
use Rattle.literal_index.specs.Rows.{Row, passing_both}
use Rattle.ad_candidates.specs.declared.narrowing.Best.{Best}
use Rattle.ad_candidates.specs.declared.narrowing.Lookup.{Lookup}
use Rattle.ad_candidates.specs.Counts.{least_left}

-- the places of the ads that pass, which stand from place k on
abbrev pub places_where : (Advert → Bool) → ℕ → List Advert → List ℕ
places_where passes k [] = []
places_where passes k (advert ∷ ads) = if passes advert then k ∷ places_where passes (suc k) ads else places_where passes (suc k) ads

-- these places are those of some ads, which are all ads whose dock with a frame of the request is undecided among others, and no
-- more than the narrowest test of the frame leaves
pub record AreCandidatesAt (request : List Frame) (frame : ℕ) (labels : List (List ℕ)) (ads : List Advert) (places : List ℕ) : Type 0 where
  pub passes : Advert → Bool
  pub all : IsPermutation (places_where passes 0 ads) places
  pub others : (advert : Advert) → passes advert ≡ false → not (is_dock_decided request frame labels advert.ad) ≡ false
  pub few : length places ≤ least_left ads (tests_of request frame labels)

-- the same for the root of a request without ports
abbrev pub AreCandidates : List Frame → List Advert → List ℕ → Type 0
AreCandidates request ads places = AreCandidatesAt request 0 [] ads places

-- the same for tests by themselves: all ads against which none of them decides are among these
pub record AreOfTests (ads : List Advert) (tests : List Test) (places : List ℕ) : Type 0 where
  pub passes : Advert → Bool
  pub all : IsPermutation (places_where passes 0 ads) places
  pub others : (advert : Advert) → passes advert ≡ false → list_any (λ test. is_decided test advert.ad 0) tests ≡ true
  pub few : length places ≤ least_left ads tests

-- ---- what the index is asked for

-- the ad's root decides against no test of a look-up
abbrev pub is_left : Lookup → List Frame → Bool
is_left (Lookup.One test) ad = not (is_decided test.now ad 0)
is_left (Lookup.Both first second) ad = not (is_decided first.now ad 0) && not (is_decided second.now ad 0)

-- these are the places of such ads, in any order
abbrev pub ArePlacesLeft : List Advert → Lookup → List ℕ → Type 0
ArePlacesLeft ads lookup places = IsPermutation (places_where (λ advert. is_left lookup advert.ad) 0 ads) places

-- the slots of such ads
abbrev pub slots_left : Lookup → List Row → List ℕ
slots_left lookup rows = map (λ row. row.slot) (filter (λ row. is_left lookup row.ad) rows)

-- two tests of a look-up are a pair
abbrev pub is_paired : Lookup → Bool
is_paired (Lookup.One test) = true
is_paired (Lookup.Both first second) = is_pair first.now second.now

-- the tests of a look-up are among these
abbrev pub AreAmong : List Test → Lookup → Type 0
AreAmong tests (Lookup.One test) = Contains tests test.now
AreAmong tests (Lookup.Both first second) = Contains tests first.now × Contains tests second.now

-- so many slots are no more than any two neighbours among these tests leave that are a pair
abbrev pub AreFewForPairs : List Row → List Test → ℕ → Type 0
AreFewForPairs rows tests n =
    (k : ℕ) (first second : Test) → slice_get tests k ≡ Some first → slice_get tests (k + 1) ≡ Some second → IsTrue (is_pair first second)
    → n ≤ length (passing_both first second rows)

-- the better of the best look-up so far and another: that which leaves fewer ads
abbrev pub better : List Row → Best → Lookup → Best
better rows best lookup =
    let left = length (slots_left lookup rows) in
    if nat_lt left best.left then record { lookup = Some lookup; left = left } else best

-- the better of the best so far and a test with the one before it, where the two are a pair
abbrev pub better_pair : List Row → Best → Option (Bor Test) → Bor Test → Best
better_pair rows best None test = best
better_pair rows best (Some before) test = if is_pair before.now test.now then better rows best (Lookup.Both before test) else best
