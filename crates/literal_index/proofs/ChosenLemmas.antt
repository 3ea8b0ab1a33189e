-- The slots that are chosen by a test, against those of the ads that pass it.
use Rattle.std.proofs.Common.{refl, arith, ◌≡◌, ◌<◌, ◌∙◌, ap, sym, subst, true≢false, ℕ, ◌^◌, Bool, true, false, not, ◌&&◌, ◌||◌, ◌==◌, cond, List, [], ◌∷◌}
use Rattle.std.proofs.Common.{◌++◌, map, filter, Option, None, Some, option_map, slice_get, All, IsPermutation, lt_trans}
use Rattle.std.specs.Bool.{beq}
use Rattle.std.specs.Map.{lookup, keys_of}
use Rattle.std.specs.Option.{option_and_then, option_map_or}
use Rattle.std.specs.Ordering.{eq_by_cmp}
use Rattle.std.specs.declared.ops.Bound.{Bound}
use Rattle.std.specs.BTreeMap.{BTreeMap, IsOrdered, get, is_at}
use Rattle.std.specs.BTreeMap.Range.{entries_between, range_contains}
use Rattle.std.specs.BTreeSet.{BTreeSet}
use Rattle.std.proofs.lemmas.List.{map-append}
use Rattle.std.proofs.lemmas.List.Elements.{All-tail, filter_agree}
use Rattle.std.proofs.lemmas.List.Sorted.{IsPermutation-cons, IsPermutation-map, IsPermutation-middle, IsPermutation-refl, IsPermutation-trans}
use Rattle.std.proofs.lemmas.Map.Entries.{lookup-filter-keys, lookup-filter-values, option_filter}
use Rattle.std.proofs.lemmas.Map.Keys.{IsDistinct-from_sorted}
use Rattle.std.proofs.lemmas.Map.Made.{IsDistinct-keys_filter}
use Rattle.std.proofs.lemmas.Option.{slice_get_within}
use Rattle.pool_text.specs.declared.language.Lit.{Lit}
use Rattle.pool_text.specs.Folding.{folded}
use Rattle.ad_tree.specs.Tree.{Tree}
use Rattle.ad_tree.specs.Names.{same_name}
use Rattle.ad_tree.specs.Frames.{Frame, attributes_at}
use Rattle.conjunct_plan.specs.declared.test.Test.{Test}
use Rattle.conjunct_plan.specs.Decided.{asked}
use Rattle.literal_index.specs.declared.place.Place.{Place}
use Rattle.literal_index.specs.declared.entry.Entry.{Entry}
use Rattle.literal_index.specs.declared.entry.Choice.{Choice}
use Rattle.literal_index.specs.declared.span.Span.{Span}
use Rattle.literal_index.specs.Digests.{digest}
use Rattle.literal_index.specs.Rows.{Row, ad_under, passes, passing_slots, row_of}
use Rattle.literal_index.specs.Entries.{chosen_slots, entry_at, entry_in, entry_of, holds_with, is_chosen, is_of, kind_of, literal_of, place_of, value_of}
use Rattle.literal_index.specs.Order.{place_order}
use Rattle.literal_index.specs.Selections.{spanned}
use Rattle.literal_index.specs.Shown.{AreIndexed, IsRow}
use Rattle.literal_index.specs.Spans.{Covers, first_place, last_place}
use Rattle.literal_index.proofs.EntryLemmas.{same-entries}
use Rattle.literal_index.proofs.ListedLemmas.{at, distinct-rows, lookup-rows, place_equal, rows_entries}
use Rattle.literal_index.proofs.NamedLemmas.{bytes_same, first_named, is_kept, keeps, kept-apart, kept_slots, passes-named}
use Rattle.literal_index.proofs.Orders.{at_place}
use Rattle.literal_index.proofs.RowLemmas.{agree}
use Rattle.literal_index.proofs.SpanLemmas.{in_span}

-- ---- entries in a span

row-under : (slot : ℕ) (rows : List Row) (fs : List Frame) → All IsRow rows → ad_under slot rows ≡ Some fs → IsRow (row_of slot fs)
row-under slot [] fs all found = absurd (cc)
row-under slot (r ∷ rows) fs all found = by (row-under slot rows fs (All-tail IsRow r rows all)) (r.slot == slot) refl
  where
    head : IsRow r
    head = all 0 r (omega arith)

    by : (ad_under slot rows ≡ Some fs → IsRow (row_of slot fs)) → (b : Bool) → (r.slot == slot) ≡ b → IsRow (row_of slot fs)
    by others true e =
        let same : Some r.ad ≡ Some fs = sym (ap (λ b. cond b (Some r.ad) (ad_under slot rows)) e) ∙ found in
        let ad : r.ad ≡ fs = cc in
        let P : ℕ → Type 0 = λ s. IsRow (row_of s fs) in
        let Q : List Frame → Type 0 = λ gs. IsRow (row_of r.slot gs) in
        subst P (agree r.slot slot e) (subst Q ad head)
    by others false e = others (sym (ap (λ b. cond b (Some r.ad) (ad_under slot rows)) e) ∙ found)

pub and_left : (a b : Bool) → (a && b) ≡ true → a ≡ true
and_left true b h = refl
and_left false b h = absurd (true≢false (sym h))

pub and_right : (a b : Bool) → (a && b) ≡ true → b ≡ true
and_right true b h = h
and_right false b h = absurd (true≢false (sym h))

-- entries are picked between two places, and what is picked of an ad stands there
module _ (picks : Entry → Bool) (from to : Place) (m : BTreeMap Place Entry) (slots : BTreeSet ℕ) (rows : List Row) (index : AreIndexed m slots rows)
    (ordered : IsOrdered place_order m)
    (covered : (slot k : ℕ) (a : List ℕ × Tree) → slot < 2 ^ 64 → k < 2 ^ 32 → picks (entry_of a) ≡ true
    → range_contains place_order (Bound.Included from) (Bound.Included to) (place_of slot k a) ≡ true) where
  abbrev in_range : Place → Bool
  in_range q = range_contains place_order (Bound.Included from) (Bound.Included to) q

  abbrev between : List (Place × Entry)
  between = entries_between place_order (Bound.Included from) (Bound.Included to) m.entries

  -- what is picked of all that stands at places stands between the two
  entry_in_range : (q : Place) (v : Entry) → entry_at rows q ≡ Some v → picks v ≡ true → in_range q ≡ true
  entry_in_range q v found chosen = by_ad (ad_under q.slot rows) refl found
    where
      by_attr : (fs : List Frame) → IsRow (row_of q.slot fs) → (o : Option (List ℕ × Tree)) → slice_get (attributes_at fs 0) q.attr ≡ o
          → cond (option_map_or (λ a. is_at (place_order (place_of q.slot q.attr a)) q) o false) (option_map entry_of o) None ≡ Some v → in_range q ≡ true
      by_attr fs row None at found = absurd (cc)
      by_attr fs row (Some a) at found = by_bool (is_at (place_order (place_of q.slot q.attr a)) q) refl
        where
          by_bool : (b : Bool) → is_at (place_order (place_of q.slot q.attr a)) q ≡ b → in_range q ≡ true
          by_bool false e = let no : None ≡ Some v = sym (ap (λ b. cond b (Some (entry_of a)) None) e) ∙ found in absurd (cc)
          by_bool true e =
              let same : Some (entry_of a) ≡ Some v = sym (ap (λ b. cond b (Some (entry_of a)) None) e) ∙ found in
              let value : entry_of a ≡ v = cc in
              let within = slice_get_within (attributes_at fs 0) q.attr a at in
              sym (ap in_range (at_place (place_of q.slot q.attr a) q e))
              ∙ covered q.slot q.attr a row.slot (lt_trans within row.few) (ap picks value ∙ chosen)

      by_ad : (o : Option (List Frame)) → ad_under q.slot rows ≡ o → option_and_then (λ fs. entry_in (attributes_at fs 0) q) o ≡ Some v → in_range q ≡ true
      by_ad None under found = absurd (cc)
      by_ad (Some fs) under found = by_attr fs (row-under q.slot rows fs index.ads under) (slice_get (attributes_at fs 0) q.attr) refl found

  abbrev all_entries : List (Place × Entry)
  all_entries = rows_entries rows

  kept_in_map : (q : Place) → lookup (at q) (filter (λ e. picks e.1) between) ≡ option_filter picks (cond (in_range q) (get place_order m q) None)
  kept_in_map q =
      lookup-filter-values place_equal picks q between (IsDistinct-keys_filter (eq_by_cmp place_order) (λ e. in_range e.0) m.entries
      (IsDistinct-from_sorted place_order (keys_of m.entries) ordered))
      ∙ ap (option_filter picks) (lookup-filter-keys (at q) in_range (in_range q) (λ k e. sym (ap in_range (at_place q k e))) m.entries)

  kept_in_list : (q : Place) → lookup (at q) (filter (λ e. picks e.1) all_entries) ≡ option_filter picks (entry_at rows q)
  kept_in_list q =
      lookup-filter-values place_equal picks q all_entries (distinct-rows rows index.apart) ∙ ap (option_filter picks) (lookup-rows rows index.apart q)

  same_found : (q : Place) → option_filter picks (cond (in_range q) (get place_order m q) None) ≡ option_filter picks (entry_at rows q)
  same_found q = ap (λ o. option_filter picks (cond (in_range q) o None)) (index.entries q) ∙ by (entry_at rows q) refl
    where
      none : (b : Bool) → option_filter picks (cond b None None) ≡ None
      none true = refl
      none false = refl

      by : (o : Option Entry) → entry_at rows q ≡ o → option_filter picks (cond (in_range q) o None) ≡ option_filter picks o
      by None e = none (in_range q)
      by (Some v) e = by_bool (picks v) refl (in_range q) refl
        where
          by_bool : (c : Bool) → picks v ≡ c → (b : Bool) → in_range q ≡ b
              → option_filter picks (cond (in_range q) (Some v) None) ≡ option_filter picks (Some v)
          by_bool c p true i = ap (λ b. option_filter picks (cond b (Some v) None)) i
          by_bool true p false i = absurd (true≢false (sym (entry_in_range q v e p) ∙ i))
          by_bool false p false i = ap (λ b. option_filter picks (cond b (Some v) None)) i ∙ sym (ap (λ c. cond c (Some v) None) p)

  -- what is picked between them is what is picked of all
  pub picked_between : IsPermutation (filter (λ e. picks e.1) between) (filter (λ e. picks e.1) all_entries)
  picked_between =
      same-entries (eq_by_cmp place_order) place_equal at_place (filter (λ e. picks e.1) between) (filter (λ e. picks e.1) all_entries)
      (IsDistinct-keys_filter (eq_by_cmp place_order) (λ e. picks e.1) between
      (IsDistinct-keys_filter (eq_by_cmp place_order) (λ e. in_range e.0) m.entries (IsDistinct-from_sorted place_order (keys_of m.entries) ordered)))
      (IsDistinct-keys_filter (eq_by_cmp place_order) (λ e. picks e.1) all_entries (distinct-rows rows index.apart))
      (λ q. kept_in_map q ∙ same_found q ∙ sym (kept_in_list q))

  pub slots_between : IsPermutation (map (λ e. e.0.slot) (filter (λ e. picks e.1) between)) (map (λ e. e.0.slot) (filter (λ e. picks e.1) all_entries))
  slots_between = IsPermutation-map (λ e. e.0.slot) _ _ picked_between

-- ---- spans

module _ (test : Test) (choice : Choice) (span : Span)
    (covered : (found : Option Lit) → is_of test choice found ≡ true → Covers span (kind_of found) (value_of found)) where
  -- a chosen attribute of an ad stands in the span
  pub own_in_range : (slot k : ℕ) (a : List ℕ × Tree) → slot < 2 ^ 64 → k < 2 ^ 32 → is_chosen test choice (entry_of a) ≡ true
      → range_contains place_order (Bound.Included (first_place (digest (folded (asked test))) span))
      (Bound.Included (last_place (digest (folded (asked test))) span)) (place_of slot k a) ≡ true
  own_in_range slot k a low few chosen =
      let name : folded (asked test) ≡ folded a.0 =
      bytes_same (folded (asked test)) (folded a.0) (and_right (is_of test choice (literal_of a.1)) (same_name (asked test) a.0) chosen) in
      let P : List ℕ → Type 0 =
      λ bytes. range_contains place_order (Bound.Included (first_place (digest bytes) span)) (Bound.Included (last_place (digest bytes) span))
      (place_of slot k a) ≡ true in
      subst P (sym name)
      (in_span (digest (folded a.0)) slot k low few span (kind_of (literal_of a.1)) (value_of (literal_of a.1))
      (covered (literal_of a.1) (and_left (is_of test choice (literal_of a.1)) (same_name (asked test) a.0) chosen)))

  -- what is chosen in it is what is chosen of all
  pub slots_in_span : (m : BTreeMap Place Entry) (slots : BTreeSet ℕ) (rows : List Row) → AreIndexed m slots rows → IsOrdered place_order m
      → IsPermutation (chosen_slots test choice (spanned test span m)) (chosen_slots test choice (rows_entries rows))
  slots_in_span m slots rows index ordered =
      slots_between (is_chosen test choice) (first_place (digest (folded (asked test))) span) (last_place (digest (folded (asked test))) span) m slots rows
      index ordered own_in_range

-- ---- two choices together

module _ {X : Type 0} (p q r : X → Bool) (either : (x : X) → r x ≡ (p x || q x)) (apart : (x : X) → p x ≡ true → q x ≡ false) where
  joined : (xs : List X) → IsPermutation (filter p xs ++ filter q xs) (filter r xs)
  joined [] = IsPermutation-refl []
  joined (x ∷ xs) = by (joined xs) (p x) refl (q x) refl
    where
      shown : Bool → Bool → Bool → Type 0
      shown a b c = IsPermutation (cond a (x ∷ filter p xs) (filter p xs) ++ cond b (x ∷ filter q xs) (filter q xs)) (cond c (x ∷ filter r xs) (filter r xs))

      both : (a b : Bool) → p x ≡ a → q x ≡ b → shown a b (a || b) → shown (p x) (q x) (r x)
      both a b h k s =
          let P : Bool → Type 0 = λ c. shown c b (c || b) in
          let Q : Bool → Type 0 = λ c. shown (p x) c (p x || c) in
          let R : Bool → Type 0 = λ c. shown (p x) (q x) c in
          subst R (sym (either x)) (subst Q (sym k) (subst P (sym h) s))

      by : IsPermutation (filter p xs ++ filter q xs) (filter r xs) → (a : Bool) → p x ≡ a → (b : Bool) → q x ≡ b → shown (p x) (q x) (r x)
      by rest true h true k = absurd (true≢false (sym k ∙ apart x h))
      by rest true h false k = both true false h k (IsPermutation-cons x _ _ rest)
      by rest false h true k =
          both false true h k (IsPermutation-trans _ _ _ (IsPermutation-middle (filter p xs) x (filter q xs)) (IsPermutation-cons x _ _ rest))
      by rest false h false k = both false false h k rest

-- what keeps an ad is open, or true of the test
open_or_true : (test : Test) (entry : Entry)
    → is_kept (asked test) (λ found. beq (keeps test found) true) entry ≡ (is_chosen test Choice.Open entry || is_chosen test Choice.True entry)
open_or_true test entry = by entry.literal (same_name (asked test) entry.name)
  where
    yes : (b : Bool) → b ≡ (b || false)
    yes true = refl
    yes false = refl

    true_if : (h n : Bool) → (beq h true && n) ≡ (h && n)
    true_if true n = refl
    true_if false n = refl

    by : (found : Option Lit) (n : Bool) → (beq (keeps test found) true && n) ≡ ((is_of test Choice.Open found && n) || (is_of test Choice.True found && n))
    by None n = yes n
    by (Some lit) n = true_if (holds_with test lit) n

not_both_chosen : (test : Test) (entry : Entry) → is_chosen test Choice.Open entry ≡ true → is_chosen test Choice.True entry ≡ false
not_both_chosen test entry h = by entry.literal h
  where
    by : (found : Option Lit) → (is_of test Choice.Open found && same_name (asked test) entry.name) ≡ true
        → (is_of test Choice.True found && same_name (asked test) entry.name) ≡ false
    by None h = refl
    by (Some lit) h = absurd (true≢false (sym h))

-- what doesn't keep an ad is untrue of the test
untrue : (test : Test) (entry : Entry) → is_kept (asked test) (λ found. beq (keeps test found) false) entry ≡ is_chosen test Choice.Untrue entry
untrue test entry = by entry.literal
  where
    false_if : (h n : Bool) → (beq h false && n) ≡ (not h && n)
    false_if true n = refl
    false_if false n = refl

    by : (found : Option Lit)
        → (beq (keeps test found) false && same_name (asked test) entry.name) ≡ (is_of test Choice.Untrue found && same_name (asked test) entry.name)
    by None = refl
    by (Some lit) = false_if (holds_with test lit) (same_name (asked test) entry.name)

-- ---- ads

-- the slots of the ads that pass, or of those that don't
abbrev pub sorted_out : Test → Bool → List Row → List ℕ
sorted_out test wanted rows = map (λ row. row.slot) (filter (λ row. beq (passes test row) wanted) rows)

-- the slots whose attribute of a name keeps its ad are those of the ads that are judged so
module _ (n : List ℕ) (keep : Option Lit → Bool) (judge : Row → Bool)
    (says : (row : Row) → judge row ≡ option_map_or (λ t. keep (literal_of t)) (first_named n (attributes_at row.ad 0)) false) where
  pub kept-rows : (rows : List Row) → All IsRow rows → kept_slots n keep (rows_entries rows) ≡ map (λ row. row.slot) (filter judge rows)
  kept-rows [] ads = refl
  kept-rows (row ∷ rows) ads =
      let head : IsRow row = ads 0 row (omega arith) in
      let rest : List ℕ = kept_slots n keep (rows_entries rows) in
      kept-apart n keep row.slot (rows_entries rows) 0 (attributes_at row.ad 0) (head.ad.apart 0)
      ∙ ap (λ b. cond b (row.slot ∷ rest) rest) (sym (says row))
      ∙ chosen (judge row) (kept-rows rows (All-tail IsRow row rows ads))
    where
      chosen : (b : Bool) → kept_slots n keep (rows_entries rows) ≡ map (λ x. x.slot) (filter judge rows)
          → cond b (row.slot ∷ kept_slots n keep (rows_entries rows)) (kept_slots n keep (rows_entries rows))
          ≡ map (λ x. x.slot) (cond b (row ∷ filter judge rows) (filter judge rows))
      chosen true e = ap (λ slots. row.slot ∷ slots) e
      chosen false e = e

-- an ad passes as its attribute says, or fails without it
judged : (test : Test) (wanted : Bool) → holds_with test Lit.Undefined ≡ not wanted → (row : Row)
    → beq (passes test row) wanted ≡ option_map_or (λ t. beq (keeps test (literal_of t)) wanted) (first_named (asked test) (attributes_at row.ad 0)) false
judged test wanted undefined row = ap (λ b. beq b wanted) (passes-named test row) ∙ by (first_named (asked test) (attributes_at row.ad 0))
  where
    unlike : (b : Bool) → beq (not b) b ≡ false
    unlike true = refl
    unlike false = refl

    by : (found : Option Tree)
        → beq (option_map_or (λ t. keeps test (literal_of t)) found (holds_with test Lit.Undefined)) wanted
        ≡ option_map_or (λ t. beq (keeps test (literal_of t)) wanted) found false
    by None = ap (λ b. beq b wanted) undefined ∙ unlike wanted
    by (Some t) = refl

kept-sorted : (test : Test) (wanted : Bool) → holds_with test Lit.Undefined ≡ not wanted → (rows : List Row) → All IsRow rows
    → kept_slots (asked test) (λ found. beq (keeps test found) wanted) (rows_entries rows) ≡ sorted_out test wanted rows
kept-sorted test wanted undefined =
    kept-rows (asked test) (λ found. beq (keeps test found) wanted) (λ row. beq (passes test row) wanted) (judged test wanted undefined)

pub sorted_out-passing : (test : Test) (rows : List Row) → sorted_out test true rows ≡ passing_slots test rows
sorted_out-passing test rows = ap (map (λ row. row.slot)) (filter_agree (λ row. beq (passes test row) true) (passes test) (λ row. same (passes test row)) rows)
  where
    same : (b : Bool) → beq b true ≡ b
    same true = refl
    same false = refl

-- what is open and what is true, together, is what is kept
pub joined_slots : (p q r : Entry → Bool) → ((x : Entry) → r x ≡ (p x || q x)) → ((x : Entry) → p x ≡ true → q x ≡ false) → (es : List (Place × Entry))
    → IsPermutation (map (λ e. e.0.slot) (filter (λ e. p e.1) es) ++ map (λ e. e.0.slot) (filter (λ e. q e.1) es))
    (map (λ e. e.0.slot) (filter (λ e. r e.1) es))
joined_slots p q r either apart es =
    let Q : List ℕ → Type 0 = λ slots. IsPermutation slots (map (λ e. e.0.slot) (filter (λ e. r e.1) es)) in
    subst Q (map-append (λ e. e.0.slot) (filter (λ e. p e.1) es) (filter (λ e. q e.1) es))
    (IsPermutation-map (λ e. e.0.slot) _ _ (joined (λ e. p e.1) (λ e. q e.1) (λ e. r e.1) (λ e. either e.1) (λ e h. apart e.1 h) es))

-- what is chosen of all entries, by a test that isn't true of Undefined
pub passing_chosen : (test : Test) (rows : List Row) → holds_with test Lit.Undefined ≡ false → All IsRow rows
    → IsPermutation (chosen_slots test Choice.Open (rows_entries rows) ++ chosen_slots test Choice.True (rows_entries rows)) (passing_slots test rows)
passing_chosen test rows undefined ads =
    let es = rows_entries rows in
    let P : List ℕ → Type 0 = λ slots. IsPermutation (chosen_slots test Choice.Open es ++ chosen_slots test Choice.True es) slots in
    subst P (kept-sorted test true undefined rows ads ∙ sorted_out-passing test rows)
    (joined_slots (is_chosen test Choice.Open) (is_chosen test Choice.True) (is_kept (asked test) (λ found. beq (keeps test found) true)) (open_or_true test)
    (not_both_chosen test) es)

-- and by one that is
pub failing_chosen : (test : Test) (rows : List Row) → holds_with test Lit.Undefined ≡ true → All IsRow rows
    → chosen_slots test Choice.Untrue (rows_entries rows) ≡ sorted_out test false rows
failing_chosen test rows undefined ads =
    ap (map (λ e. e.0.slot)) (sym (filter_agree (λ e. is_kept (asked test) (λ found. beq (keeps test found) false) e.1) (λ e. is_chosen test Choice.Untrue e.1)
    (λ e. untrue test e.1) (rows_entries rows)))
    ∙ kept-sorted test false undefined rows ads
