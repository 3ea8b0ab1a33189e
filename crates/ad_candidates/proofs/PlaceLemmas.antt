-- The places of the ads that a test leaves, and those of the slots that an index gives for it.
use Rattle.std.proofs.Common.{◌≡◌, ◌<◌, ◌≤◌, ◌+◌, ℕ, zero, suc, Bool, true, false, not, ◌||◌, ◌&&◌, refl, List, [], ◌∷◌}
use Rattle.std.proofs.Common.{◌++◌, length, map, filter, get_or, Some, slice_get, count_by, cond, if◌then◌else◌, nat_eq, All, Contains, ap, sym}
use Rattle.std.proofs.Common.{◌∙◌, subst, arith, add-zero, zero-add, add-one, eq-eqb}
use Rattle.std.proofs.lemmas.Bool.{eqb-true}
use Rattle.std.specs.List.{list_any, range_with_len}
use Rattle.std.specs.List.Sorted.{IsPermutation}
use Rattle.std.proofs.lemmas.List.Elements.{All-cons, All-nil}
use Rattle.std.proofs.lemmas.List.Sorted.{All-permutation, IsPermutation-map, IsPermutation-refl, length_permutation}
use Rattle.std.proofs.lemmas.List.Sums.{sum_by-cons}
use Rattle.std.proofs.lemmas.Option.{get_or_from_slice_get, slice_get_within}
use Rattle.ad_tree.specs.Frames.{Frame}
use Rattle.ad_store.specs.Stock.{Advert}
use Rattle.conjunct_plan.specs.declared.test.Test.{Test}
use Rattle.conjunct_plan.specs.Decided.{is_decided, rules_out}
use Rattle.conjunct_plan.specs.Tests.{tests_of}
use Rattle.literal_index.specs.Rows.{Row, row_of}
use Rattle.ad_candidates.specs.declared.narrowing.Lookup.{Lookup}
use Rattle.ad_candidates.specs.Candidates.{AreAmong, AreCandidatesAt, AreOfTests, ArePlacesLeft, is_left, places_where, slots_left}
use Rattle.ad_candidates.specs.Counts.{least_left}
use Rattle.ad_candidates.specs.KnownTests.{ArePlacesOfOne}
use Rattle.ad_candidates.specs.Rows.{rows_beside}

-- ---- places

pub length-places : (keeps : Advert → Bool) (k : ℕ) (ads : List Advert) → length (places_where keeps k ads) ≡ count_by keeps ads
length-places keeps k [] = refl
length-places keeps k (a ∷ ads) = by (length-places keeps (suc k) ads) (keeps a) ∙ sym (sum_by-cons (λ (a : Advert). cond (keeps a) 1 0) a ads)
  where
    by : length (places_where keeps (suc k) ads) ≡ count_by keeps ads → (b : Bool)
        → length (if b then k ∷ places_where keeps (suc k) ads else places_where keeps (suc k) ads) ≡ cond b 1 0 + count_by keeps ads
    by rest true = omega (arith, rest)
    by rest false = omega (arith, rest)

places-within : (keeps : Advert → Bool) (k n : ℕ) (ads : List Advert) → k + length ads ≤ n → All (λ place. place < n) (places_where keeps k ads)
places-within keeps k n [] fits = All-nil (λ place. place < n)
places-within keeps k n (a ∷ ads) fits = by (places-within keeps (suc k) n ads (omega (arith, fits))) (keeps a)
  where
    by : All (λ place. place < n) (places_where keeps (suc k) ads) → (b : Bool)
        → All (λ place. place < n) (if b then k ∷ places_where keeps (suc k) ads else places_where keeps (suc k) ads)
    by rest true = All-cons (λ place. place < n) k (places_where keeps (suc k) ads) (omega (arith, fits)) rest
    by rest false = rest

-- candidates are places of ads
pub candidates-within : (request : List Frame) (frame : ℕ) (labels : List (List ℕ)) (ads : List Advert) (places : List ℕ)
    → AreCandidatesAt request frame labels ads places → (n : ℕ) → length ads ≤ n → All (λ place. place < n) places
candidates-within request frame labels ads places some n fits =
    All-permutation (λ place. place < n) (places_where some.passes 0 ads) places some.all (places-within some.passes 0 n ads (omega (arith, fits)))

-- ---- slots that are apart

abbrev pub AreApart : List ℕ → Type 0
AreApart slots = (i j slot : ℕ) → slice_get slots i ≡ Some slot → slice_get slots j ≡ Some slot → i ≡ j

-- the first place of a slot
unfoldable pub place_in : List ℕ → ℕ → ℕ
place_in [] slot = 0
place_in (s ∷ slots) slot = cond (nat_eq s slot) 0 (suc (place_in slots slot))

place_in-there : (slots : List ℕ) (p slot : ℕ) → slice_get slots p ≡ Some slot → slice_get slots (place_in slots slot) ≡ Some slot
unfolding place_in
place_in-there [] p slot e = absurd (cc)
place_in-there (s ∷ slots) p slot e = by (λ p e. place_in-there slots p slot e) (nat_eq s slot) refl p e
  where
    by : ((p : ℕ) → slice_get slots p ≡ Some slot → slice_get slots (place_in slots slot) ≡ Some slot) → (b : Bool) → nat_eq s slot ≡ b
        → (p : ℕ) → slice_get (s ∷ slots) p ≡ Some slot → slice_get (s ∷ slots) (cond b 0 (suc (place_in slots slot))) ≡ Some slot
    by behind true same p e = ap Some (eqb-true s slot same)
    by behind false other zero e = let one : s ≡ slot = cc in let turned : nat_eq s slot ≡ true = eq-eqb s slot one in absurd (cc)
    by behind false other (suc p) e = behind p e

pub place_in-is : (slots : List ℕ) → AreApart slots → (p slot : ℕ) → slice_get slots p ≡ Some slot → place_in slots slot ≡ p
place_in-is slots apart p slot e = apart (place_in slots slot) p slot (place_in-there slots p slot e) e

places-are : (all : List ℕ) → AreApart all → (places slots : List ℕ) → map (slice_get all) places ≡ map Some slots
    → places ≡ map (place_in all) slots
places-are all apart [] [] e = refl
places-are all apart [] (s ∷ slots) e = absurd (cc)
places-are all apart (p ∷ places) [] e = absurd (cc)
places-are all apart (p ∷ places) (s ∷ slots) e =
    let head : slice_get all p ≡ Some s = cc in
    let rest : map (slice_get all) places ≡ map Some slots = cc in
    let first : place_in all s ≡ p = place_in-is all apart p s head in
    let others : places ≡ map (place_in all) slots = places-are all apart places slots rest in
    cc

-- ---- rows

-- ads are judged by their frames
module _ (judge : List Frame → Bool) where
  abbrev judged : Advert → Bool
  judged advert = judge advert.ad

  -- the slots of those that are judged well
  abbrev judged_slots : List Row → List ℕ
  judged_slots rows = map (λ row. row.slot) (filter (λ row. judge row.ad) rows)

  rows-places : (all : List ℕ) (k : ℕ) (ads : List Advert) (slots : List ℕ) → length ads ≡ length slots
      → ((i slot : ℕ) → slice_get slots i ≡ Some slot → place_in all slot ≡ k + i)
      → map (place_in all) (judged_slots (rows_beside ads slots)) ≡ places_where judged k ads
  rows-places all k [] [] same at = refl
  rows-places all k [] (s ∷ slots) same at = absurd (omega (arith, same))
  rows-places all k (a ∷ ads) [] same at = absurd (omega (arith, same))
  rows-places all k (a ∷ ads) (s ∷ slots) same at =
      by (rows-places all (suc k) ads slots (omega (arith, same))
      (λ i slot is. let moved : k + suc i ≡ suc k + i = omega arith in at (suc i) slot is ∙ moved)) (judged a)
    where
      here : place_in all s ≡ k
      here = at 0 s refl ∙ add-zero k

      by : map (place_in all) (judged_slots (rows_beside ads slots)) ≡ places_where judged (suc k) ads → (b : Bool)
          → map (place_in all) (map (λ row. row.slot) (cond b (row_of s a.ad ∷ filter (λ row. judge row.ad) (rows_beside ads slots))
          (filter (λ row. judge row.ad) (rows_beside ads slots)))) ≡ (if b then k ∷ places_where judged (suc k) ads else places_where judged (suc k) ads)
      by rest true = let first = here in cc
      by rest false = rest

  pub length-judged : (ads : List Advert) (slots : List ℕ) → length ads ≡ length slots
      → length (judged_slots (rows_beside ads slots)) ≡ count_by judged ads
  length-judged [] [] same = refl
  length-judged [] (s ∷ slots) same = absurd (omega (arith, same))
  length-judged (a ∷ ads) [] same = absurd (omega (arith, same))
  length-judged (a ∷ ads) (s ∷ slots) same =
      by (length-judged ads slots (omega (arith, same))) (judged a) ∙ sym (sum_by-cons (λ (advert : Advert). cond (judged advert) 1 0) a ads)
    where
      by : length (judged_slots (rows_beside ads slots)) ≡ count_by judged ads → (b : Bool)
          → length (map (λ row. row.slot) (cond b (row_of s a.ad ∷ filter (λ row. judge row.ad) (rows_beside ads slots))
          (filter (λ row. judge row.ad) (rows_beside ads slots)))) ≡ cond b 1 0 + count_by judged ads
      by rest true = omega (arith, rest)
      by rest false = omega (arith, rest)

  -- the slots are slots of ads
  judged-held : (all : List ℕ) (ads : List Advert) (slots : List ℕ) → ((i slot : ℕ) → slice_get slots i ≡ Some slot → Contains all slot)
      → All (Contains all) (judged_slots (rows_beside ads slots))
  judged-held all [] slots at = All-nil (Contains all)
  judged-held all (a ∷ ads) [] at = All-nil (Contains all)
  judged-held all (a ∷ ads) (s ∷ slots) at = by (judged-held all ads slots (λ i slot is. at (suc i) slot is)) (judged a)
    where
      by : All (Contains all) (judged_slots (rows_beside ads slots)) → (b : Bool)
          → All (Contains all) (map (λ row. row.slot) (cond b (row_of s a.ad ∷ filter (λ row. judge row.ad) (rows_beside ads slots))
          (filter (λ row. judge row.ad) (rows_beside ads slots))))
      by rest true = All-cons (Contains all) s (judged_slots (rows_beside ads slots)) (at 0 s refl) rest
      by rest false = rest

contains-at : (all : List ℕ) (i slot : ℕ) → slice_get all i ≡ Some slot → Contains all slot
contains-at all i slot is = (i, slice_get_within all i slot is, get_or_from_slice_get all i slot slot is)

pub hits-held : (lookup : Lookup) (ads : List Advert) (all slots : List ℕ) → IsPermutation (slots_left lookup (rows_beside ads all)) slots
    → All (Contains all) slots
hits-held lookup ads all slots moved =
    All-permutation (Contains all) (slots_left lookup (rows_beside ads all)) slots moved
    (judged-held (is_left lookup) all ads all (λ i slot is. contains-at all i slot is))

-- ---- candidates

any-at : (p : Test → Bool) (tests : List Test) (k : ℕ) (test : Test) → k < length tests → get_or tests k test ≡ test → p test ≡ true
    → list_any p tests ≡ true
any-at p [] k test within is passed = absurd (omega (arith, within))
any-at p (t ∷ tests) zero test within is passed = ap (λ (b : Bool). b || list_any p tests) (ap p is ∙ passed)
any-at p (t ∷ tests) (suc k) test within is passed = by (p t) (any-at p tests k test (omega (arith, within)) is passed)
  where
    by : (b : Bool) → list_any p tests ≡ true → (b || list_any p tests) ≡ true
    by true e = refl
    by false e = e

-- against an ad that a test doesn't leave one of the tests decides
test-decides : (tests : List Test) (test : Test) → Contains tests test → (advert : Advert) → not (is_decided test advert.ad 0) ≡ false
    → list_any (λ t. is_decided t advert.ad 0) tests ≡ true
test-decides tests test one advert e = any-at (λ t. is_decided t advert.ad 0) tests one.0 test one.1 one.2 (not-false (is_decided test advert.ad 0) e)
  where
    not-false : (b : Bool) → not b ≡ false → b ≡ true
    not-false true e = refl
    not-false false e = absurd (cc)

-- and against one that a look-up doesn't leave
lookup-decides : (tests : List Test) (lookup : Lookup) → AreAmong tests lookup → (advert : Advert) → is_left lookup advert.ad ≡ false
    → list_any (λ t. is_decided t advert.ad 0) tests ≡ true
lookup-decides tests (Lookup.One test) among advert e = test-decides tests test.now among advert e
lookup-decides tests (Lookup.Both first second) among advert e = by (not (is_decided first.now advert.ad 0)) refl
  where
    by : (b : Bool) → not (is_decided first.now advert.ad 0) ≡ b → list_any (λ t. is_decided t advert.ad 0) tests ≡ true
    by true h = test-decides tests second.now among.1 advert (sym (ap (λ (b : Bool). b && not (is_decided second.now advert.ad 0)) h) ∙ e)
    by false h = test-decides tests first.now among.0 advert h

-- one more number
pub range-next : (a n : ℕ) → range_with_len a (suc n) ≡ range_with_len a n ++ (a + n) ∷ []
range-next a zero = ap (λ (k : ℕ). k ∷ []) (sym (add-zero a))
range-next a (suc n) =
    let same : (a + 1) + n ≡ a + suc n = omega arith in
    ap (λ (l : List ℕ). a ∷ l) (range-next (a + 1) n ∙ ap (λ (k : ℕ). range_with_len (a + 1) n ++ k ∷ []) same)

-- the places of the slots that a look-up leaves
pub left-places : (ads : List Advert) (all : List ℕ) → length ads ≡ length all → AreApart all → (lookup : Lookup) (slots places : List ℕ)
    → IsPermutation (slots_left lookup (rows_beside ads all)) slots → map (slice_get all) places ≡ map Some slots → ArePlacesLeft ads lookup places
left-places ads all same apart lookup slots places moved spelled =
    let passes : Advert → Bool = λ advert. is_left lookup advert.ad in
    let left : List ℕ = slots_left lookup (rows_beside ads all) in
    let are : places ≡ map (place_in all) slots = places-are all apart places slots spelled in
    let where_left : map (place_in all) left ≡ places_where passes 0 ads =
    rows-places (is_left lookup) all 0 ads all same (λ i slot is. place_in-is all apart i slot is ∙ sym (zero-add i)) in
    let step : IsPermutation (map (place_in all) left) (map (place_in all) slots) = IsPermutation-map (place_in all) left slots moved in
    subst (λ (xs : List ℕ). IsPermutation xs places) where_left (subst (λ (ys : List ℕ). IsPermutation (map (place_in all) left) ys) (sym are) step)

module _ (ads : List Advert) (tests : List Test) where
  pub of-lookup : (all : List ℕ) (lookup : Lookup) (places : List ℕ) → length ads ≡ length all → AreAmong tests lookup
      → length (slots_left lookup (rows_beside ads all)) ≤ least_left ads tests
      → ArePlacesLeft ads lookup places → AreOfTests ads tests places
  of-lookup all lookup places same among least are =
      let passes : Advert → Bool = λ advert. is_left lookup advert.ad in
      record {
        passes = passes;
        all = are;
        others = λ advert e. lookup-decides tests lookup among advert e;
        few = omega (
          arith,
          length_permutation (places_where passes 0 ads) places are,
          length-places passes 0 ads,
          length-judged (is_left lookup) ads all same,
          least,
        );
      }

  -- all places
  all-places : (k : ℕ) (ads : List Advert) → places_where (λ a. true) k ads ≡ range_with_len k (length ads)
  all-places k [] = refl
  all-places k (a ∷ ads) = ap (λ (l : List ℕ). k ∷ l) (all-places (suc k) ads ∙ ap (λ n. range_with_len n (length ads)) (sym (add-one k)))

  length-all : (k : ℕ) (ads : List Advert) → length (places_where (λ a. true) k ads) ≡ length ads
  length-all k [] = refl
  length-all k (a ∷ ads) = ap suc (length-all (suc k) ads)

  pub of-all : (places : List ℕ) → length ads ≤ least_left ads tests → places ≡ range_with_len 0 (length ads) → AreOfTests ads tests places
  of-all places least are =
      let whole : places_where (λ a. true) 0 ads ≡ places = all-places 0 ads ∙ sym are in
      record {
        passes = λ a. true;
        all = subst (λ (xs : List ℕ). IsPermutation (places_where (λ a. true) 0 ads) xs) whole (IsPermutation-refl (places_where (λ a. true) 0 ads));
        others = λ advert e. absurd (cc e);
        few = omega (arith, ap length whole, length-all 0 ads, least);
      }

  -- the places that one of the tests leaves
  pub of-one : (places : List ℕ) → ArePlacesOfOne ads tests places → length places ≤ least_left ads tests → AreOfTests ads tests places
  of-one places one least =
      record {
        passes = λ advert. not (is_decided one.test advert.ad 0);
        all = one.are;
        others = λ advert e. test-decides tests one.test one.among advert e;
        few = least;
      }

-- those of a request's tests are its candidates
pub request-candidates : (request : List Frame) (frame : ℕ) (labels : List (List ℕ)) (ads : List Advert) (tests : List Test) (places : List ℕ)
    → tests ≡ tests_of request frame labels
    → AreOfTests ads tests places → AreCandidatesAt request frame labels ads places
request-candidates request frame labels ads tests places is found =
    let some : AreOfTests ads (tests_of request frame labels) places = subst (λ (ts : List Test). AreOfTests ads ts places) is found in
    record {
      passes = some.passes;
      all = some.all;
      others = λ advert e. ap (λ (b : Bool). not (b || rules_out advert.ad 0 [] request frame)) (some.others advert e);
      few = some.few;
    }
