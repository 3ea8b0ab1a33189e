-- What the tests of a pair choose, against the ads that pass both.
use Rattle.std.proofs.Common.{refl, ◌≡◌, ◌<◌, ◌∙◌, ap, ap₂, sym, subst, true≢false, ℕ, ◌+◌, ◌^◌, length-append, Bool, true, false, not, ◌&&◌, ◌||◌, cond, List}
use Rattle.std.proofs.Common.{[], ◌∷◌, ◌++◌, length, Option, None, Some, nat_eq, IsPermutation, Ordering, Less, Equal, Greater}
use Rattle.std.specs.Prelude.{bytes_eq, count_by}
use Rattle.std.specs.Ordering.{is_le, is_lt, is_gt, ord_max, ord_min, ordering_reverse}
use Rattle.std.specs.List.Sorted.{IsNonDecreasing, IsStrictlyIncreasing}
use Rattle.std.specs.Cmp.{nat_eq_equiv}
use Rattle.std.specs.Option.{option_map_or}
use Rattle.std.specs.declared.ops.Bound.{Bound}
use Rattle.std.specs.BTreeMap.{BTreeMap, IsOrdered}
use Rattle.std.specs.BTreeMap.Comparable.{le_lt_trans}
use Rattle.std.specs.BTreeMap.Range.{range_contains}
use Rattle.std.specs.BTreeSet.{BTreeSet}
use Rattle.std.proofs.lemmas.Cmp.{tied_itself}
use Rattle.std.proofs.lemmas.List.{length-map}
use Rattle.std.proofs.lemmas.List.Sorted.{IsPermutation-append, IsPermutation-sym, IsPermutation-trans, length_permutation}
use Rattle.std.proofs.lemmas.List.Sums.{length-filter}
use Rattle.std.proofs.lemmas.Map.Keys.{IsDistinct-IsPermutation, IsStrictlyIncreasing-from_distinct}
use Rattle.pool_text.specs.declared.language.Lit.{Lit}
use Rattle.pool_text.specs.Folding.{folded}
use Rattle.ad_tree.specs.Tree.{Tree}
use Rattle.ad_tree.specs.Names.{same_name}
use Rattle.ad_tree.specs.Frames.{attributes_at}
use Rattle.conjunct_plan.specs.declared.test.Test.{Test}
use Rattle.conjunct_plan.specs.Decided.{asked}
use Rattle.literal_index.specs.declared.place.Place.{Place}
use Rattle.literal_index.specs.declared.entry.Entry.{Entry}
use Rattle.literal_index.specs.declared.entry.Choice.{Choice}
use Rattle.literal_index.specs.declared.span.Span.{Span}
use Rattle.literal_index.specs.Digests.{digest}
use Rattle.literal_index.specs.Rows.{Row, passes_both, passing_both}
use Rattle.literal_index.specs.Entries.{chosen_slots, entry_of, holds_with, is_chosen, is_chosen_by_both, is_of, is_pair, literal_of, place_of, slots_of_both}
use Rattle.literal_index.specs.Order.{place_order, place_order_total}
use Rattle.literal_index.specs.Selections.{spanned, spanned_by_both}
use Rattle.literal_index.specs.Shown.{AreIndexed}
use Rattle.literal_index.specs.Spans.{first_in_both, first_place, last_in_both, last_place, open_span, passing_span}
use Rattle.literal_index.proofs.ChosenLemmas.{and_left, and_right, joined_slots, kept-rows, own_in_range, slots_between, slots_in_span}
use Rattle.literal_index.proofs.HitLemmas.{distinct-chosen, open_covered, true_covered}
use Rattle.literal_index.proofs.ListedLemmas.{rows_entries}
use Rattle.literal_index.proofs.NamedLemmas.{bytes_same, first_named, is_kept, keeps, passes-named}

-- ---- places in both of two spans

and_both : (a b : Bool) → a ≡ true → b ≡ true → (a && b) ≡ true
and_both a b h k = ap (λ c. c && b) h ∙ k

less : (o : Ordering) → is_lt o ≡ true → o ≡ Less
less Less h = refl
less Equal h = absurd (cc)
less Greater h = absurd (cc)

not_less : (o : Ordering) → is_lt o ≡ false → is_le (ordering_reverse o) ≡ true
not_less Less h = absurd (cc)
not_less Equal h = refl
not_less Greater h = refl

not_greater : (o : Ordering) → is_lt o ≡ true → is_gt o ≡ false
not_greater Less h = refl
not_greater Equal h = refl
not_greater Greater h = absurd (cc)

module _ (a b c d : Place) where
  abbrev start : Place
  start = ord_max place_order a c

  abbrev stop : Place
  stop = ord_min place_order b d

  never_behind : is_gt (place_order start (ord_max place_order stop start)) ≡ false
  never_behind = by (is_lt (place_order start stop)) refl
    where
      by : (t : Bool) → is_lt (place_order start stop) ≡ t → is_gt (place_order start (cond t stop start)) ≡ false
      by true e = not_greater (place_order start stop) e
      by false e = ap is_gt (tied_itself place_order_total start)

  module _ (q : Place) where
    behind_start : is_le (place_order a q) ≡ true → is_le (place_order c q) ≡ true → is_le (place_order start q) ≡ true
    behind_start h k = by (is_lt (place_order c a))
      where
        by : (t : Bool) → is_le (place_order (cond t a c) q) ≡ true
        by true = h
        by false = k

    up_to_stop : not (is_lt (place_order b q)) ≡ true → not (is_lt (place_order d q)) ≡ true → not (is_lt (place_order stop q)) ≡ true
    up_to_stop h k = by (is_lt (place_order d b))
      where
        by : (t : Bool) → not (is_lt (place_order (cond t d b) q)) ≡ true
        by true = k
        by false = h

    up_to_end : not (is_lt (place_order stop q)) ≡ true → not (is_lt (place_order (ord_max place_order stop start) q)) ≡ true
    up_to_end h = by (is_lt (place_order start stop)) refl
      where
        at : is_le (place_order stop start) ≡ true → (u : Bool) → is_lt (place_order start q) ≡ u → not u ≡ true
        at low false k = refl
        at low true k =
            let below : place_order stop q ≡ Less = le_lt_trans place_order_total stop start q low (less (place_order start q) k) in
            absurd (true≢false (sym h ∙ ap (λ o. not (is_lt o)) below))

        by : (t : Bool) → is_lt (place_order start stop) ≡ t → not (is_lt (place_order (cond t stop start) q)) ≡ true
        by true e = h
        by false e = at (ap is_le (place_order_total.antisymm stop start) ∙ not_less (place_order start stop) e) (is_lt (place_order start q)) refl

    -- what stands between a and b, and between c and d, stands in what both have in common
    in_both : range_contains place_order (Bound.Included a) (Bound.Included b) q ≡ true
        → range_contains place_order (Bound.Included c) (Bound.Included d) q ≡ true
        → range_contains place_order (Bound.Included start) (Bound.Included (ord_max place_order stop start)) q ≡ true
    in_both h k =
        and_both _ _ (behind_start (and_left _ _ h) (and_left _ _ k)) (up_to_end (up_to_stop (and_right _ _ h) (and_right _ _ k)))

-- a range of places in both spans doesn't end before it begins
pub forward_in_both : (name : ℕ) (a b : Span) → is_gt (place_order (first_in_both name a b) (last_in_both name a b)) ≡ false
unfolding first_in_both last_in_both
forward_in_both name a b = never_behind (first_place name a) (last_place name a) (first_place name b) (last_place name b)

spans_in_both : (name : ℕ) (a b : Span) (q : Place)
    → range_contains place_order (Bound.Included (first_place name a)) (Bound.Included (last_place name a)) q ≡ true
    → range_contains place_order (Bound.Included (first_place name b)) (Bound.Included (last_place name b)) q ≡ true
    → range_contains place_order (Bound.Included (first_in_both name a b)) (Bound.Included (last_in_both name a b)) q ≡ true
unfolding first_in_both last_in_both
spans_in_both name a b q h k = in_both (first_place name a) (last_place name a) (first_place name b) (last_place name b) q h k

-- ---- two tests of one attribute

first_along : (n m : List ℕ) (attrs : List (List ℕ × Tree)) → folded n ≡ folded m → first_named n attrs ≡ first_named m attrs
first_along n m [] e = refl
first_along n m (a ∷ attrs) e = ap₂ (λ bytes found. cond (bytes_eq bytes (folded a.0)) (Some a.1) found) e (first_along n m attrs e)

module _ (first second : Test) (pair : is_pair first second ≡ true) where
  one_name : folded (asked first) ≡ folded (asked second)
  one_name = bytes_same (folded (asked first)) (folded (asked second)) (and_left _ _ (and_left _ _ pair))

  unnot : (b : Bool) → not b ≡ true → b ≡ false
  unnot false e = refl
  unnot true e = absurd (true≢false (sym e))

  first_undefined : holds_with first Lit.Undefined ≡ false
  first_undefined = unnot _ (and_right _ _ (and_left _ _ pair))

  -- a literal, or none, doesn't decide against either
  abbrev keeps_both : Option Lit → Bool
  keeps_both found = keeps first found && keeps second found

  judged_both : (row : Row)
      → passes_both first second row ≡ option_map_or (λ t. keeps_both (literal_of t)) (first_named (asked first) (attributes_at row.ad 0)) false
  judged_both row =
      ap₂ (λ a b. a && b) (passes-named first row)
      (passes-named second row ∙ ap (λ found. option_map_or (λ t. keeps second (literal_of t)) found (holds_with second Lit.Undefined)) (sym
      (first_along (asked first) (asked second) (attributes_at row.ad 0) one_name)))
      ∙ by (first_named (asked first) (attributes_at row.ad 0))
    where
      by : (found : Option Tree)
          → (option_map_or (λ t. keeps first (literal_of t)) found (holds_with first Lit.Undefined)
          && option_map_or (λ t. keeps second (literal_of t)) found (holds_with second Lit.Undefined))
          ≡ option_map_or (λ t. keeps_both (literal_of t)) found false
      by None = ap (λ b. b && holds_with second Lit.Undefined) first_undefined
      by (Some t) = refl

  -- what keeps an ad is open, or true of both
  open_or_both : (entry : Entry) → is_kept (asked first) keeps_both entry ≡ (is_chosen first Choice.Open entry || is_chosen_by_both first second entry)
  open_or_both entry =
      by entry.literal (same_name (asked first) entry.name)
      ∙ ap (λ n. is_chosen first Choice.Open entry || (is_chosen first Choice.True entry && (is_of second Choice.True entry.literal && n))) other_name
    where
      other_name : same_name (asked first) entry.name ≡ same_name (asked second) entry.name
      other_name = ap (λ bytes. bytes_eq bytes (folded entry.name)) one_name

      yes : (b : Bool) → b ≡ (b || false)
      yes true = refl
      yes false = refl

      both : (h k n : Bool) → ((h && k) && n) ≡ ((h && n) && (k && n))
      both true true true = refl
      both true true false = refl
      both true false true = refl
      both true false false = refl
      both false k n = refl

      by : (found : Option Lit) (n : Bool)
          → (keeps_both found && n) ≡ ((is_of first Choice.Open found && n) || ((is_of first Choice.True found && n) && (is_of second Choice.True found && n)))
      by None n = yes n
      by (Some lit) n = both (holds_with first lit) (holds_with second lit) n

  not_open_and_both : (entry : Entry) → is_chosen first Choice.Open entry ≡ true → is_chosen_by_both first second entry ≡ false
  not_open_and_both entry h = by entry.literal h
    where
      by : (found : Option Lit) → (is_of first Choice.Open found && same_name (asked first) entry.name) ≡ true
          → ((is_of first Choice.True found && same_name (asked first) entry.name) && (is_of second Choice.True found && same_name (asked second) entry.name))
          ≡ false
      by None h = refl
      by (Some lit) h = absurd (true≢false (sym h))

  abbrev lowest : Place
  lowest = first_in_both (digest (folded (asked first))) (passing_span first) (passing_span second)

  abbrev highest : Place
  highest = last_in_both (digest (folded (asked first))) (passing_span first) (passing_span second)

  both_covered : (slot k : ℕ) (a : List ℕ × Tree) → slot < 2 ^ 64 → k < 2 ^ 32 → is_chosen_by_both first second (entry_of a) ≡ true
      → range_contains place_order (Bound.Included lowest) (Bound.Included highest) (place_of slot k a) ≡ true
  both_covered slot k a low few chosen =
      let P : List ℕ → Type 0 =
      λ bytes. range_contains place_order (Bound.Included (first_place (digest bytes) (passing_span second)))
      (Bound.Included (last_place (digest bytes) (passing_span second))) (place_of slot k a) ≡ true in
      spans_in_both (digest (folded (asked first))) (passing_span first) (passing_span second) (place_of slot k a)
      (own_in_range first Choice.True (passing_span first) (true_covered first) slot k a low few (and_left _ _ chosen))
      (subst P (sym one_name) (own_in_range second Choice.True (passing_span second) (true_covered second) slot k a low few (and_right _ _ chosen)))

  -- ---- what is answered

  module _ (m : BTreeMap Place Entry) (slots : BTreeSet ℕ) (rows : List Row) (index : AreIndexed m slots rows) (ordered : IsOrdered place_order m) where
    abbrev opened : List ℕ
    opened = chosen_slots first Choice.Open (spanned first open_span m)

    abbrev both : List ℕ
    both = slots_of_both first second (spanned_by_both first second m)

    both-found : IsPermutation (opened ++ both) (passing_both first second rows)
    both-found =
        let P : List ℕ → Type 0 =
        λ ys. IsPermutation (chosen_slots first Choice.Open (rows_entries rows) ++ slots_of_both first second (rows_entries rows)) ys in
        IsPermutation-trans _ _ _
        (IsPermutation-append _ _ _ _ (slots_in_span first Choice.Open open_span (open_covered first) m slots rows index ordered)
        (slots_between (is_chosen_by_both first second) lowest highest m slots rows index ordered both_covered))
        (subst P (kept-rows (asked first) keeps_both (passes_both first second) judged_both rows index.ads)
        (joined_slots (is_chosen first Choice.Open) (is_chosen_by_both first second) (is_kept (asked first) keeps_both) open_or_both not_open_and_both
        (rows_entries rows)))

    -- what is found, put in order, is what passes both
    pub both-sorted : (found sorted answer : List ℕ) → found ≡ opened ++ both → IsPermutation found sorted → answer ≡ sorted
        → IsPermutation (passing_both first second rows) answer
    both-sorted found sorted answer is same end =
        let P : List ℕ → Type 0 = λ ys. IsPermutation ys sorted in
        let Q : List ℕ → Type 0 = λ ys. IsPermutation (passing_both first second rows) ys in
        subst Q (sym end) (IsPermutation-trans _ _ _ (IsPermutation-sym _ _ both-found) (subst P is same))

    pub both-rise : (found : List ℕ) → IsNonDecreasing found → IsPermutation (passing_both first second rows) found → IsStrictlyIncreasing found
    both-rise found rising same =
        IsStrictlyIncreasing-from_distinct found rising (IsDistinct-IsPermutation nat_eq nat_eq_equiv.symm _ _ same
        (distinct-chosen (passes_both first second) rows index.apart))

    pub both-count : count_by (λ e. is_chosen first Choice.Open e.1) (spanned first open_span m)
        + count_by (λ e. is_chosen_by_both first second e.1) (spanned_by_both first second m)
        ≡ length (passing_both first second rows)
    both-count =
        ap₂ (λ a b. a + b)
        (sym (length-filter (λ e. is_chosen first Choice.Open e.1) (spanned first open_span m)) ∙ sym (length-map _ _))
        (sym (length-filter (λ e. is_chosen_by_both first second e.1) (spanned_by_both first second m)) ∙ sym (length-map _ _))
        ∙ sym (length-append opened both)
        ∙ sym (length_permutation _ _ both-found)
