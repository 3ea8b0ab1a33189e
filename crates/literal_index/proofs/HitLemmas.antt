-- Slots as sets of numbers, and what an index answers.
use Rattle.std.proofs.Common.{refl, arith, ◌≡◌, ◌∙◌, ap, sym, subst, true≢false, ℕ, ◌+◌, ◌-◌, length-append, Bool, true, false, not, ◌&&◌, ◌||◌, ◌==◌, cond}
use Rattle.std.proofs.Common.{List, [], ◌∷◌, ◌++◌, map, filter, length, Option, None, Some, is_some, nat_eq, nat_cmp, IsPermutation}
use Rattle.std.specs.Prelude.{count_by}
use Rattle.std.specs.Bool.{beq}
use Rattle.std.specs.Cmp.{nat_eq_equiv}
use Rattle.std.specs.List.{IsDistinct, AllByRecursion, list_any}
use Rattle.std.specs.List.Sorted.{IsNonDecreasing, IsStrictlyIncreasing}
use Rattle.std.specs.Map.{lookup, keys_of}
use Rattle.std.specs.Option.{option_map_or}
use Rattle.std.specs.Ordering.{eq_by_cmp}
use Rattle.std.specs.BTreeMap.{BTreeMap, IsOrdered as IsMapOrdered, is_at}
use Rattle.std.specs.BTreeSet.{BTreeSet, IsOrdered}
use Rattle.std.proofs.lemmas.List.Filters.{length-filter_both}
use Rattle.std.proofs.lemmas.List.Kept.{IsStrictlySortedBy-filter}
use Rattle.std.proofs.lemmas.List.Sorted.{IsPermutation-append, IsPermutation-map, IsPermutation-sym, IsPermutation-trans, length_permutation}
use Rattle.std.proofs.lemmas.List.Sorted.{list_any-IsPermutation}
use Rattle.std.proofs.lemmas.List.Sums.{length-filter}
use Rattle.std.proofs.lemmas.List.{length-map}
use Rattle.std.proofs.lemmas.Map.Keys.{IsDistinct-IsPermutation, IsDistinct-from_sorted, IsDistinct-head, IsDistinct-tail, IsStrictlyIncreasing-from_distinct}
use Rattle.std.proofs.lemmas.Map.Keys.{IsStrictlyIncreasing-from_sorted}
use Rattle.std.proofs.lemmas.Map.Made.{is_member-filter, length-from_same_keys}
use Rattle.pool_text.specs.declared.language.Lit.{Lit}
use Rattle.ad_tree.specs.Frames.{Frame}
use Rattle.conjunct_plan.specs.declared.test.Test.{Test}
use Rattle.literal_index.specs.declared.place.Place.{Place}
use Rattle.literal_index.specs.declared.entry.Entry.{Entry}
use Rattle.literal_index.specs.declared.entry.Choice.{Choice}
use Rattle.literal_index.specs.declared.span.Span.{Span}
use Rattle.literal_index.specs.Rows.{Row, ad_under, passes, passing_slots, row_of}
use Rattle.literal_index.specs.Entries.{chosen_slots, holds_with, is_chosen, is_of, kind_of, value_of}
use Rattle.literal_index.specs.Order.{place_order}
use Rattle.literal_index.specs.Selections.{spanned}
use Rattle.literal_index.specs.Shown.{AreIndexed}
use Rattle.literal_index.specs.Spans.{Covers, failing_span, open_span, passing_span}
use Rattle.literal_index.proofs.ChosenLemmas.{failing_chosen, passing_chosen, slots_in_span, sorted_out}
use Rattle.literal_index.proofs.EntryLemmas.{same-entries}
use Rattle.literal_index.proofs.RowLemmas.{agree, at_number, none-under}
use Rattle.literal_index.proofs.SpanLemmas.{failing_covered, passing_covered}

-- ---- sets of numbers

equal : (x y : ℕ) → nat_eq x y ≡ true → x ≡ y
equal x y e = grind arith

units : List ℕ → List (ℕ × Unit {0})
units xs = map (λ x. (x, tt)) xs

keys-units : (xs : List ℕ) → keys_of (units xs) ≡ xs
unfolding units
keys-units [] = refl
keys-units (x ∷ xs) = ap (λ ys. x ∷ ys) (keys-units xs)

firsts-units : (xs : List ℕ) → map (λ e. e.0) (units xs) ≡ xs
unfolding units
firsts-units [] = refl
firsts-units (x ∷ xs) = ap (λ ys. x ∷ ys) (firsts-units xs)

found-units : (s : ℕ) (xs : List ℕ) → lookup (nat_eq s) (units xs) ≡ cond (list_any (nat_eq s) xs) (Some tt) None
unfolding units
found-units s [] = refl
found-units s (x ∷ xs) = by (found-units s xs) (nat_eq s x)
  where
    by : lookup (nat_eq s) (units xs) ≡ cond (list_any (nat_eq s) xs) (Some tt) None → (b : Bool)
        → cond b (Some tt) (lookup (nat_eq s) (units xs)) ≡ cond (b || list_any (nat_eq s) xs) (Some tt) None
    by rest true = refl
    by rest false = rest

-- two lists without repeats that have the same numbers
same-members : (xs ys : List ℕ) → IsDistinct nat_eq xs → IsDistinct nat_eq ys → ((s : ℕ) → list_any (nat_eq s) xs ≡ list_any (nat_eq s) ys)
    → IsPermutation xs ys
same-members xs ys apart apart' same =
    let P : List ℕ → Type 0 = λ ks. IsDistinct nat_eq ks in
    let Q : List ℕ → Type 0 = λ ks. IsPermutation ks ys in
    let R : List ℕ → Type 0 = λ ks. IsPermutation (map (λ e. e.0) (units xs)) ks in
    subst Q (firsts-units xs) (subst R (firsts-units ys)
    (IsPermutation-map (λ e. e.0) _ _
    (same-entries nat_eq nat_eq_equiv equal (units xs) (units ys) (subst P (sym (keys-units xs)) apart) (subst P (sym (keys-units ys)) apart')
    (λ s. found-units s xs ∙ ap (λ b. cond b (Some tt) None) (same s) ∙ sym (found-units s ys)))))

all-along : (P Q : ℕ → Bool) → ((x : ℕ) → P x ≡ Q x) → (xs : List ℕ) → AllByRecursion (λ x. P x ≡ false) xs → AllByRecursion (λ x. Q x ≡ false) xs
all-along P Q same [] h = tt
all-along P Q same (x ∷ xs) h = (sym (same x) ∙ h.0, all-along P Q same xs h.1)

distinct-along : (e f : ℕ → ℕ → Bool) → ((x y : ℕ) → e x y ≡ f x y) → (xs : List ℕ) → IsDistinct e xs → IsDistinct f xs
unfolding IsDistinct
distinct-along e f same [] h = tt
distinct-along e f same (x ∷ xs) h = (all-along (e x) (f x) (same x) xs h.0, distinct-along e f same xs h.1)

any-along : (P Q : ℕ → Bool) → ((x : ℕ) → P x ≡ Q x) → (xs : List ℕ) → list_any P xs ≡ list_any Q xs
any-along P Q same [] = refl
any-along P Q same (x ∷ xs) = ap (λ b. b || list_any P xs) (same x) ∙ ap (λ b. Q x || b) (any-along P Q same xs)

number_equal : (x y : ℕ) → eq_by_cmp nat_cmp x y ≡ nat_eq x y
number_equal x y = at_number x y

-- ---- slots of ads

module _ (p : Row → Bool) where
  all-chosen : (P : ℕ → Type 0) (rows : List Row) → AllByRecursion P (map (λ row. row.slot) rows) → AllByRecursion P (map (λ row. row.slot) (filter p rows))
  all-chosen P [] h = tt
  all-chosen P (row ∷ rows) h = by (all-chosen P rows h.1) (p row)
    where
      by : AllByRecursion P (map (λ x. x.slot) (filter p rows)) → (b : Bool)
          → AllByRecursion P (map (λ x. x.slot) (cond b (row ∷ filter p rows) (filter p rows)))
      by rest true = (h.0, rest)
      by rest false = rest

  pub distinct-chosen : (rows : List Row) → IsDistinct nat_eq (map (λ row. row.slot) rows) → IsDistinct nat_eq (map (λ row. row.slot) (filter p rows))
  unfolding IsDistinct
  distinct-chosen [] apart = tt
  distinct-chosen (row ∷ rows) apart = by (distinct-chosen rows apart.1) (p row)
    where
      by : IsDistinct nat_eq (map (λ x. x.slot) (filter p rows)) → (b : Bool)
          → IsDistinct nat_eq (map (λ x. x.slot) (cond b (row ∷ filter p rows) (filter p rows)))
      by rest true = (all-chosen (λ s. nat_eq row.slot s ≡ false) rows apart.0, rest)
      by rest false = rest

  -- a slot is among those of the chosen ads where its ad is chosen
  member-chosen : (rows : List Row) → IsDistinct nat_eq (map (λ row. row.slot) rows) → (s : ℕ)
      → list_any (nat_eq s) (map (λ row. row.slot) (filter p rows)) ≡ option_map_or (λ fs. p (row_of s fs)) (ad_under s rows) false
  member-chosen [] apart s = refl
  member-chosen (row ∷ rows) apart s =
      by (member-chosen rows (IsDistinct-tail nat_eq row.slot (map (λ x. x.slot) rows) apart) s) (row.slot == s) refl (p row) refl
    where
      under : Option (List Frame)
      under = cond (row.slot == s) (Some row.ad) (ad_under s rows)

      slots : Bool → List ℕ
      slots b = map (λ x. x.slot) (cond b (row ∷ filter p rows) (filter p rows))

      yes : row.slot ≡ s → nat_eq s row.slot ≡ true
      yes e = grind arith

      no : (row.slot == s) ≡ false → nat_eq s row.slot ≡ false
      no e = grind arith

      none : row.slot ≡ s → ad_under s rows ≡ None
      none e = ap (λ t. ad_under t rows) (sym e) ∙ none-under row.slot rows (IsDistinct-head nat_eq row.slot (map (λ x. x.slot) rows) apart)

      own : row.slot ≡ s → p (row_of s row.ad) ≡ p row
      own e = ap (λ t. p (row_of t row.ad)) (sym e)

      by : list_any (nat_eq s) (map (λ x. x.slot) (filter p rows)) ≡ option_map_or (λ fs. p (row_of s fs)) (ad_under s rows) false → (b : Bool)
          → (row.slot == s) ≡ b → (c : Bool) → p row ≡ c
          → list_any (nat_eq s) (slots (p row)) ≡ option_map_or (λ fs. p (row_of s fs)) under false
      by rest true e true h =
          ap (λ c. list_any (nat_eq s) (slots c)) h
          ∙ ap (λ b. b || list_any (nat_eq s) (map (λ x. x.slot) (filter p rows))) (yes (agree row.slot s e))
          ∙ sym (ap (λ b. option_map_or (λ fs. p (row_of s fs)) (cond b (Some row.ad) (ad_under s rows)) false) e ∙ own (agree row.slot s e) ∙ h)
      by rest true e false h =
          ap (λ c. list_any (nat_eq s) (slots c)) h
          ∙ rest ∙ ap (λ o. option_map_or (λ fs. p (row_of s fs)) o false) (none (agree row.slot s e))
          ∙ sym (ap (λ b. option_map_or (λ fs. p (row_of s fs)) (cond b (Some row.ad) (ad_under s rows)) false) e ∙ own (agree row.slot s e) ∙ h)
      by rest false e true h =
          ap (λ c. list_any (nat_eq s) (slots c)) h
          ∙ ap (λ b. b || list_any (nat_eq s) (map (λ x. x.slot) (filter p rows))) (no e)
          ∙ rest
          ∙ sym (ap (λ b. option_map_or (λ fs. p (row_of s fs)) (cond b (Some row.ad) (ad_under s rows)) false) e)
      by rest false e false h =
          ap (λ c. list_any (nat_eq s) (slots c)) h
          ∙ rest
          ∙ sym (ap (λ b. option_map_or (λ fs. p (row_of s fs)) (cond b (Some row.ad) (ad_under s rows)) false) e)

-- ---- spans

pub open_covered : (test : Test) (found : Option Lit) → is_of test Choice.Open found ≡ true → Covers open_span (kind_of found) (value_of found)
open_covered test None h = (refl, refl)
open_covered test (Some lit) h = absurd (true≢false (sym h))

pub true_covered : (test : Test) (found : Option Lit) → is_of test Choice.True found ≡ true → Covers (passing_span test) (kind_of found) (value_of found)
true_covered test None h = absurd (true≢false (sym h))
true_covered test (Some lit) h = passing_covered test lit h

untrue_covered : (test : Test) (found : Option Lit) → is_of test Choice.Untrue found ≡ true → Covers (failing_span test) (kind_of found) (value_of found)
untrue_covered test None h = absurd (true≢false (sym h))
untrue_covered test (Some lit) h = failing_covered test lit (unnot (holds_with test lit) h)
  where
    unnot : (b : Bool) → not b ≡ true → b ≡ false
    unnot false e = refl
    unnot true e = absurd (true≢false (sym e))

-- ---- what is answered

module _ (test : Test) (m : BTreeMap Place Entry) (slots : BTreeSet ℕ) (rows : List Row) (index : AreIndexed m slots rows)
    (ordered : IsMapOrdered place_order m) where
  abbrev chosen : Choice → Span → List ℕ
  chosen choice span = chosen_slots test choice (spanned test span m)

  -- where the test isn't true of Undefined
  pub passing-found : holds_with test Lit.Undefined ≡ false
      → IsPermutation (chosen Choice.Open open_span ++ chosen Choice.True (passing_span test)) (passing_slots test rows)
  passing-found undefined =
      IsPermutation-trans _ _ _
      (IsPermutation-append _ _ _ _ (slots_in_span test Choice.Open open_span (open_covered test) m slots rows index ordered)
      (slots_in_span test Choice.True (passing_span test) (true_covered test) m slots rows index ordered))
      (passing_chosen test rows undefined index.ads)

  -- what is found, put in order, is what passes
  pub passing-sorted : holds_with test Lit.Undefined ≡ false → (found sorted answer : List ℕ)
      → found ≡ chosen Choice.Open open_span ++ chosen Choice.True (passing_span test)
      → IsPermutation found sorted → answer ≡ sorted → IsPermutation (passing_slots test rows) answer
  passing-sorted undefined found sorted answer is same end =
      let P : List ℕ → Type 0 = λ ys. IsPermutation ys sorted in
      let Q : List ℕ → Type 0 = λ ys. IsPermutation (passing_slots test rows) ys in
      subst Q (sym end) (IsPermutation-trans _ _ _ (IsPermutation-sym _ _ (passing-found undefined)) (subst P is same))

  -- where it is
  failing-found : holds_with test Lit.Undefined ≡ true → IsPermutation (chosen Choice.Untrue (failing_span test)) (sorted_out test false rows)
  failing-found undefined =
      let P : List ℕ → Type 0 = λ ys. IsPermutation (chosen Choice.Untrue (failing_span test)) ys in
      subst P (failing_chosen test rows undefined index.ads)
      (slots_in_span test Choice.Untrue (failing_span test) (untrue_covered test) m slots rows index ordered)

  pub distinct-passing : IsDistinct nat_eq (passing_slots test rows)
  distinct-passing = distinct-chosen (passes test) rows index.apart

  -- the hits are a rising list of the slots that pass
  pub hits-rise : (found : List ℕ) → IsNonDecreasing found → IsPermutation (passing_slots test rows) found → IsStrictlyIncreasing found
  hits-rise found rising same = IsStrictlyIncreasing-from_distinct found rising (IsDistinct-IsPermutation nat_eq nat_eq_equiv.symm _ _ same distinct-passing)

  member-slots : (s : ℕ) → list_any (nat_eq s) slots.keys ≡ is_some (ad_under s rows)
  member-slots s = sym (any-along (is_at (nat_cmp s)) (nat_eq s) (at_number s) slots.keys) ∙ index.slots s

  module _ (undefined : holds_with test Lit.Undefined ≡ true) (set_ordered : IsOrdered nat_cmp slots) where
    abbrev others : List ℕ → List ℕ
    others failing = filter (λ slot. not (list_any (nat_eq slot) failing)) slots.keys

    distinct-others : (failing : List ℕ) → IsDistinct nat_eq (others failing)
    distinct-others failing =
        distinct-along (eq_by_cmp nat_cmp) nat_eq number_equal (others failing)
        (IsDistinct-from_sorted nat_cmp (others failing) (IsStrictlySortedBy-filter nat_cmp (λ slot. not (list_any (nat_eq slot) failing)) slots.keys
        set_ordered))

    pub others-rise : (failing : List ℕ) → IsStrictlyIncreasing (others failing)
    others-rise failing =
        IsStrictlyIncreasing-from_sorted (others failing) (IsStrictlySortedBy-filter nat_cmp (λ slot. not (list_any (nat_eq slot) failing)) slots.keys
        set_ordered)

    pub others-pass : (failing : List ℕ) → IsPermutation (chosen Choice.Untrue (failing_span test)) failing
        → IsPermutation (passing_slots test rows) (others failing)
    others-pass failing same = same-members (passing_slots test rows) (others failing) distinct-passing (distinct-others failing) (λ s. sym (member s))
      where
        alike : (s x : ℕ) → nat_eq s x ≡ true → not (list_any (nat_eq s) failing) ≡ not (list_any (nat_eq x) failing)
        alike s x e = ap (λ t. not (list_any (nat_eq t) failing)) (equal s x e)

        fails : (s : ℕ) → list_any (nat_eq s) failing ≡ option_map_or (λ fs. beq (passes test (row_of s fs)) false) (ad_under s rows) false
        fails s =
            sym (list_any-IsPermutation (nat_eq s) _ _ same) ∙ list_any-IsPermutation (nat_eq s) _ _ (failing-found undefined)
            ∙ member-chosen (λ row. beq (passes test row) false) rows index.apart s

        turned : (s : ℕ) (o : Option (List Frame))
            → (is_some o && not (option_map_or (λ fs. beq (passes test (row_of s fs)) false) o false)) ≡ option_map_or (λ fs. passes test (row_of s fs)) o false
        turned s None = refl
        turned s (Some fs) = by (passes test (row_of s fs))
          where
            by : (b : Bool) → not (beq b false) ≡ b
            by true = refl
            by false = refl

        member : (s : ℕ) → list_any (nat_eq s) (others failing) ≡ list_any (nat_eq s) (passing_slots test rows)
        member s =
            is_member-filter nat_eq_equiv (λ slot. not (list_any (nat_eq slot) failing)) s (alike s) slots.keys
            ∙ ap (λ b. b && not (list_any (nat_eq s) failing)) (member-slots s)
            ∙ ap (λ b. is_some (ad_under s rows) && not b) (fails s)
            ∙ turned s (ad_under s rows)
            ∙ sym (member-chosen (passes test) rows index.apart s)

    -- what is found fails; put in order and left out of all, it leaves what passes
    pub others-sorted : (found failing answer : List ℕ) → found ≡ chosen Choice.Untrue (failing_span test) → IsPermutation found failing
        → answer ≡ others failing
        → IsPermutation (passing_slots test rows) answer
    others-sorted found failing answer is same end =
        let P : List ℕ → Type 0 = λ ys. IsPermutation ys failing in
        let Q : List ℕ → Type 0 = λ ys. IsPermutation (passing_slots test rows) ys in
        subst Q (sym end) (others-pass failing (subst P is same))

  -- ---- numbers

  slots-count : IsOrdered nat_cmp slots → length slots.keys ≡ length rows
  slots-count set_ordered =
      length-from_same_keys nat_eq_equiv slots.keys (map (λ row. row.slot) rows)
      (distinct-along (eq_by_cmp nat_cmp) nat_eq number_equal slots.keys (IsDistinct-from_sorted nat_cmp slots.keys set_ordered)) index.apart
      (λ s. member-slots s ∙ sym (any_rows rows s))
      ∙ length-map _ _
    where
      any_rows : (rs : List Row) (s : ℕ) → list_any (nat_eq s) (map (λ row. row.slot) rs) ≡ is_some (ad_under s rs)
      any_rows [] s = refl
      any_rows (r ∷ rs) s = by (any_rows rs s) (r.slot == s) refl
        where
          turn : (r.slot == s) ≡ nat_eq s r.slot
          turn = grind arith

          by : list_any (nat_eq s) (map (λ row. row.slot) rs) ≡ is_some (ad_under s rs) → (b : Bool) → (r.slot == s) ≡ b
              → (nat_eq s r.slot || list_any (nat_eq s) (map (λ row. row.slot) rs)) ≡ is_some (cond (r.slot == s) (Some r.ad) (ad_under s rs))
          by rest true e =
              ap (λ b. b || list_any (nat_eq s) (map (λ row. row.slot) rs)) (sym turn ∙ e) ∙ sym (ap (λ b. is_some (cond b (Some r.ad) (ad_under s rs))) e)
          by rest false e =
              ap (λ b. b || list_any (nat_eq s) (map (λ row. row.slot) rs)) (sym turn ∙ e) ∙ rest
              ∙ sym (ap (λ b. is_some (cond b (Some r.ad) (ad_under s rs))) e)

  counted : (choice : Choice) (span : Span) → count_by (λ e. is_chosen test choice e.1) (spanned test span m) ≡ length (chosen choice span)
  counted choice span = sym (length-filter (λ e. is_chosen test choice e.1) (spanned test span m)) ∙ sym (length-map _ _)

  pub passing-count : holds_with test Lit.Undefined ≡ false
      → count_by (λ e. is_chosen test Choice.Open e.1) (spanned test open_span m)
      + count_by (λ e. is_chosen test Choice.True e.1) (spanned test (passing_span test) m) ≡ length (passing_slots test rows)
  passing-count undefined =
      ap (λ n. n + count_by (λ e. is_chosen test Choice.True e.1) (spanned test (passing_span test) m)) (counted Choice.Open open_span)
      ∙ ap (λ n. length (chosen Choice.Open open_span) + n) (counted Choice.True (passing_span test))
      ∙ sym (length-append (chosen Choice.Open open_span) (chosen Choice.True (passing_span test)))
      ∙ sym (length_permutation _ _ (passing-found undefined))

  pub others-count : holds_with test Lit.Undefined ≡ true → IsOrdered nat_cmp slots
      → length slots.keys - count_by (λ e. is_chosen test Choice.Untrue e.1) (spanned test (failing_span test) m) ≡ length (passing_slots test rows)
  others-count undefined set_ordered =
      let failing : count_by (λ e. is_chosen test Choice.Untrue e.1) (spanned test (failing_span test) m)
      ≡ length (filter (λ row. beq (passes test row) false) rows)
      = counted Choice.Untrue (failing_span test) ∙ sym (length_permutation _ _ (failing-found undefined)) ∙ length-map _ _ in
      let both : length (filter (passes test) rows) + length (filter (λ row. beq (passes test row) false) rows) ≡ length rows
      = length-filter_both (passes test) (λ row. beq (passes test row) false) (λ row. unlike (passes test row)) rows in
      let all = slots-count set_ordered in
      let pass : length (passing_slots test rows) ≡ length (filter (passes test) rows) = length-map _ _ in
      omega (arith, failing, both, all, pass)
    where
      unlike : (b : Bool) → beq b false ≡ not b
      unlike true = refl
      unlike false = refl
