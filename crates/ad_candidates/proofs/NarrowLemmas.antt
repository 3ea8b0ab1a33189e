-- The narrowest of some look-ups, test by test.
use Rattle.std.proofs.Common.{◌≡◌, ◌<◌, ◌≤◌, ◌+◌, ℕ, min, Bool, true, false, List, [], ◌∷◌, length, take, get_or, nat_lt, cond}
use Rattle.std.proofs.Common.{Option, None, Some, Contains, IfNone, IfSome, IsTrue, Bor, MatchOption, option_map, slice_get, true≢false, refl, ap, sym}
use Rattle.std.proofs.Common.{◌∙◌, subst, arith}
use Rattle.std.proofs.lemmas.List.{take_all}
use Rattle.std.proofs.lemmas.List.Sums.{fold_more}
use Rattle.std.proofs.lemmas.Option.{slice_get_read, slice_get_within}
use Rattle.ad_store.specs.Stock.{Advert}
use Rattle.conjunct_plan.specs.declared.test.Test.{Test}
use Rattle.literal_index.specs.Entries.{is_pair}
use Rattle.literal_index.specs.Rows.{Row, passing_both}
use Rattle.ad_candidates.specs.declared.narrowing.Best.{Best}
use Rattle.ad_candidates.specs.declared.narrowing.Lookup.{Lookup}
use Rattle.ad_candidates.specs.Candidates.{AreAmong, AreFewForPairs, better, better_pair, is_left, is_paired, slots_left}
use Rattle.ad_candidates.specs.Counts.{least_left, least_within, left_by}
use Rattle.ad_candidates.specs.Rows.{rows_beside}
use Rattle.ad_candidates.proofs.PlaceLemmas.{length-judged}

pub within-le : (most : ℕ) (ads : List Advert) (tests : List Test) → least_within most ads tests ≤ most
within-le most ads [] = omega arith
within-le most ads (t ∷ tests) = omega (arith, within-le (min most (left_by ads t)) ads tests)

-- the least within a smaller number is that number, or the least within a greater one
pub within-lower : (m n : ℕ) (ads : List Advert) (tests : List Test) → m ≤ n → least_within m ads tests ≡ min m (least_within n ads tests)
within-lower m n ads [] below = omega (arith, below)
within-lower m n ads (t ∷ tests) below =
    omega (arith, within-lower (min m (left_by ads t)) (min n (left_by ads t)) ads tests (omega (arith, below)), within-le (min n (left_by ads t)) ads tests)

-- what leaves no more than the least within some number leaves no more than the least of all
pub few-of-all : (most : ℕ) (rows : List Row) (ads : List Advert) (tests : List Test) (best : Option Lookup) → most ≤ length ads
    → IfSome best (λ lookup. length (slots_left lookup rows) ≤ least_within most ads tests)
    → IfSome best (λ lookup. length (slots_left lookup rows) ≤ least_left ads tests)
few-of-all most rows ads tests None below few = tt
few-of-all most rows ads tests (Some lookup) below few = omega (arith, few, within-lower most (length ads) ads tests below)

-- ---- the best so far

-- a look-up of these tests, and how many ads it leaves; none where that is the most that counts
pub record IsBest (most : ℕ) (rows : List Row) (tests : List Test) (best : Best) : Type 0 where
  pub among : IfSome best.lookup (AreAmong tests)
  pub paired : IfSome best.lookup (λ lookup. IsTrue (is_paired lookup))
  pub leaves : IfSome best.lookup (λ lookup. length (slots_left lookup rows) ≡ best.left)
  pub all : IfNone best.lookup (best.left ≡ most)

module _ (most : ℕ) (rows : List Row) (tests : List Test) where
  better-best : (best : Best) (lookup : Lookup) → IsBest most rows tests best → AreAmong tests lookup → IsTrue (is_paired lookup)
      → IsBest most rows tests (better rows best lookup) × ((better rows best lookup).left ≤ best.left)
      × ((better rows best lookup).left ≤ length (slots_left lookup rows))
  better-best best lookup so_far among paired = by (nat_lt (length (slots_left lookup rows)) best.left) refl
    where
      IsBetter : Best → Type 0
      IsBetter it = IsBest most rows tests it × (it.left ≤ best.left) × (it.left ≤ length (slots_left lookup rows))

      made : Best
      made = record { lookup = Some lookup; left = length (slots_left lookup rows) }

      by : (b : Bool) → nat_lt (length (slots_left lookup rows)) best.left ≡ b → IsBetter (cond b made best)
      by true e = (record { among = among; paired = paired; leaves = refl; all = tt }, grind arith, omega arith)
      by false e = (so_far, omega arith, grind arith)

  pair-best : (best : Best) (before : Option (Bor Test)) (test : Bor Test) → IsBest most rows tests best
      → IfSome before (λ other. Contains tests other.now) → Contains tests test.now
      → IsBest most rows tests (better_pair rows best before test) × ((better_pair rows best before test).left ≤ best.left)
      × IfSome before (λ other. IsTrue (is_pair other.now test.now)
      → (better_pair rows best before test).left ≤ length (passing_both other.now test.now rows))
  pair-best best None test so_far behind here = (so_far, omega arith, tt)
  pair-best best (Some before) test so_far behind here = by (is_pair before.now test.now) refl
    where
      by : (b : Bool) → is_pair before.now test.now ≡ b
          → IsBest most rows tests (cond b (better rows best (Lookup.Both before test)) best)
          × ((cond b (better rows best (Lookup.Both before test)) best).left ≤ best.left)
          × (IsTrue (is_pair before.now test.now)
          → (cond b (better rows best (Lookup.Both before test)) best).left ≤ length (passing_both before.now test.now rows))
      by true e = let it = better-best best (Lookup.Both before test) so_far (behind, here) e in (it.0, it.1, λ _. it.2)
      by false e = (so_far, omega arith, λ pair. absurd (true≢false (sym pair ∙ e)))

-- a test that leaves as many ads as the best so far isn't better
pub not-better : (ads : List Advert) (slots : List ℕ) (best : Best) (test : Bor Test) → length ads ≡ length slots → best.left ≤ left_by ads test.now
    → best ≡ better (rows_beside ads slots) best (Lookup.One test)
not-better ads slots best test same high = by (nat_lt (length (slots_left (Lookup.One test) rows)) best.left) refl
  where
    rows : List Row
    rows = rows_beside ads slots

    left : length (slots_left (Lookup.One test) rows) ≡ left_by ads test.now
    left = length-judged (is_left (Lookup.One test)) ads slots same

    by : (b : Bool) → nat_lt (length (slots_left (Lookup.One test) rows)) best.left ≡ b
        → best ≡ cond b (record { lookup = Some (Lookup.One test); left = length (slots_left (Lookup.One test) rows) }) best
    by true e = let under : length (slots_left (Lookup.One test) rows) < best.left = grind arith in absurd (omega (arith, under, left, high))
    by false e = refl

-- the best so far leaves no more than two neighbours among the first i tests that are a pair
abbrev pub IsFewSoFar : List Row → List Test → ℕ → ℕ → Type 0
IsFewSoFar rows tests i n =
    (k : ℕ) (first second : Test) → slice_get tests k ≡ Some first → slice_get tests (k + 1) ≡ Some second → k + 1 < i
    → IsTrue (is_pair first second) → n ≤ length (passing_both first second rows)

-- the test before test i, if there is one
abbrev pub IsBefore : List Test → ℕ → Option (Bor Test) → Type 0
IsBefore tests i before = (k : ℕ) → k + 1 ≡ i → option_map (λ other. other.now) before ≡ slice_get tests k

pub next-before : (tests : List Test) (i : ℕ) (item : Test) → i < length tests → item ≡ get_or tests i item → (k : ℕ) → k + 1 ≡ i + 1
    → Some item ≡ slice_get tests k
next-before tests i item within is k e =
    let same : i ≡ k = omega (arith, e) in sym (slice_get_read tests (length tests) i item refl within is) ∙ ap (slice_get tests) same

-- one more test
module _ (most : ℕ) (ads : List Advert) (slots : List ℕ) (same : length ads ≡ length slots) (tests : List Test) (i : ℕ) (within : i < length tests)
    (test : Bor Test) (is : test.now ≡ get_or tests i test.now) where
  abbrev stored : List Row
  stored = rows_beside ads slots

  here : Contains tests test.now
  here = (i, within, sym is)

  next : least_within most ads (take (i + 1) tests) ≡ min (least_within most ads (take i tests)) (left_by ads test.now)
  next =
      fold_more (λ least t. min least (left_by ads t)) most tests i test.now within
      ∙ subst (λ (t : Test). min (least_within most ads (take i tests)) (left_by ads t)
      ≡ min (least_within most ads (take i tests)) (left_by ads test.now)) is refl

  there : slice_get tests i ≡ Some test.now
  there = slice_get_read tests (length tests) i test.now refl within is

  -- what is no more than each pair so far, and no more than the test with the one before it
  more-pairs : (before : Option (Bor Test)) → IsBefore tests i before → (m n : ℕ) → m ≤ n → IsFewSoFar stored tests i n
      → IfSome before (λ other. IsTrue (is_pair other.now test.now) → m ≤ length (passing_both other.now test.now stored))
      → IsFewSoFar stored tests (i + 1) m
  more-pairs before is_before m n low old new k first second one two within pair = by (nat_lt (k + 1) i) refl
    where
      other_found : (found : Option (Bor Test)) → option_map (λ other. other.now) found ≡ Some first → second ≡ test.now
          → IfSome found (λ other. IsTrue (is_pair other.now test.now) → m ≤ length (passing_both other.now test.now stored))
          → m ≤ length (passing_both first second stored)
      other_found None e same h = absurd (cc)
      other_found (Some other) e same h =
          let named : other.now ≡ first = cc in
          let Q : Test → Test → Type 0 = λ a b. IsTrue (is_pair a b) → m ≤ length (passing_both a b stored) in
          subst (λ (b : Test). Q first b) (sym same) (subst (λ (a : Test). Q a test.now) named h) pair

      by : (b : Bool) → nat_lt (k + 1) i ≡ b → m ≤ length (passing_both first second stored)
      by true e = let far : n ≤ length (passing_both first second stored) = old k first second one two (grind arith) pair in omega (arith, far, low)
      by false e =
          let last : k + 1 ≡ i = grind arith in
          let found : Some second ≡ Some test.now = sym two ∙ ap (slice_get tests) last ∙ there in
          let same : second ≡ test.now = cc in
          other_found before (is_before k last ∙ one) same new

  pub next-best : (best second third : Best) (before : Option (Bor Test)) → IsBest most stored tests best
      → best.left ≤ least_within most ads (take i tests) → IfSome before (λ other. Contains tests other.now)
      → IsFewSoFar stored tests i best.left → IsBefore tests i before
      → second ≡ better stored best (Lookup.One test) → third ≡ better_pair stored second before test
      → IsBest most stored tests third × (third.left ≤ least_within most ads (take (i + 1) tests)) × IsFewSoFar stored tests (i + 1) third.left
  next-best best second third before so_far few behind pairs is_before one two =
      let it = better-best most stored tests best (Lookup.One test) so_far here refl in
      let second_best : IsBest most stored tests second = subst (IsBest most stored tests) (sym one) it.0 in
      let pair = pair-best most stored tests second before test second_best behind here in
      let low : second.left ≤ best.left = subst (λ (b : Best). b.left ≤ best.left) (sym one) it.1 in
      let own : second.left ≤ length (slots_left (Lookup.One test) stored) =
      subst (λ (b : Best). b.left ≤ length (slots_left (Lookup.One test) stored)) (sym one) it.2 in
      let last : third.left ≤ second.left = subst (λ (b : Best). b.left ≤ second.left) (sym two) pair.1 in (
        subst (IsBest most stored tests) (sym two) pair.0,
        omega (arith, next, low, own, last, few, length-judged (is_left (Lookup.One test)) ads slots same),
        more-pairs before is_before third.left best.left (omega (arith, low, last)) pairs
            (subst (λ (b : Best). IfSome before (λ other. IsTrue (is_pair other.now test.now) → b.left ≤ length (passing_both other.now test.now stored)))
            (sym two) pair.2),
      )

-- where no look-up is the best of all tests, none of them leaves fewer than the most
pub best-all : (most : ℕ) (rows : List Row) (ads : List Advert) (tests : List Test) (i : ℕ) (best : Best) → IsBest most rows tests best
    → best.left ≤ least_within most ads (take i tests) → length tests ≤ i
    → IfNone best.lookup (most ≡ least_within most ads tests)
best-all most rows ads tests i best it few whole = by best.lookup it.all
  where
    by : (found : Option Lookup) → IfNone found (best.left ≡ most) → IfNone found (most ≡ least_within most ads tests)
    by None all = omega (arith, all, few, ap (least_within most ads) (take_all i tests whole), within-le most ads tests)
    by (Some lookup) all = tt

-- what is best of all tests leaves no more than any pair
pub best-pairs : (most : ℕ) (rows : List Row) (tests : List Test) (i : ℕ) (best : Best) → IsBest most rows tests best
    → IsFewSoFar rows tests i best.left → length tests ≤ i
    → MatchOption best.lookup (AreFewForPairs rows tests most) (λ lookup. AreFewForPairs rows tests (length (slots_left lookup rows)))
best-pairs most rows tests i best it pairs whole = by best.lookup it.all it.leaves
  where
    all : AreFewForPairs rows tests best.left
    all k first second one two pair = let within = slice_get_within tests (k + 1) second two in pairs k first second one two (omega (arith, within, whole)) pair

    by : (found : Option Lookup) → IfNone found (best.left ≡ most) → IfSome found (λ lookup. length (slots_left lookup rows) ≡ best.left)
        → MatchOption found (AreFewForPairs rows tests most) (λ lookup. AreFewForPairs rows tests (length (slots_left lookup rows)))
    by None none leaves = subst (AreFewForPairs rows tests) none all
    by (Some lookup) none leaves = subst (AreFewForPairs rows tests) (sym leaves) all

pub some-pairs : (rows : List Row) (tests : List Test) (n : ℕ) (found : Option Lookup)
    → MatchOption found (AreFewForPairs rows tests n) (λ lookup. AreFewForPairs rows tests (length (slots_left lookup rows)))
    → IfSome found (λ lookup. AreFewForPairs rows tests (length (slots_left lookup rows)))
some-pairs rows tests n None h = tt
some-pairs rows tests n (Some lookup) h = h
