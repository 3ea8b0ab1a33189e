-- All entries of the ads of an index, one ad after another.
use Rattle.std.proofs.Common.{refl, arith, ◌≡◌, ◌≢◌, ◌<◌, ◌∙◌, ap, sym, true≢false, ℕ, zero, suc, ◌+◌, Bool, true, false, ◌==◌, cond, List, [], ◌∷◌, map}
use Rattle.std.proofs.Common.{Option, None, Some, option_map, slice_get, nat_eq, zero-add}
use Rattle.std.specs.List.{IsDistinct, AllByRecursion}
use Rattle.std.specs.Map.{lookup, keys_of}
use Rattle.std.specs.Option.{option_and_then, option_map_or}
use Rattle.std.specs.Ordering.{eq_by_cmp}
use Rattle.std.specs.BTreeMap.{is_at}
use Rattle.std.specs.Cmp.{IsEquivalence}
use Rattle.std.proofs.lemmas.Cmp.{eq_by_cmp_equiv}
use Rattle.std.proofs.lemmas.Map.Keys.{IsDistinct-cons, IsDistinct-head, IsDistinct-tail}
use Rattle.ad_tree.specs.Tree.{Tree}
use Rattle.ad_tree.specs.Frames.{attributes_at}
use Rattle.literal_index.specs.declared.place.Place.{Place}
use Rattle.literal_index.specs.declared.entry.Entry.{Entry}
use Rattle.literal_index.specs.Rows.{Row, ad_under}
use Rattle.literal_index.specs.Entries.{entry_at, entry_in, entry_of, place_of}
use Rattle.literal_index.specs.Order.{place_order, place_order_total}
use Rattle.literal_index.proofs.NamedLemmas.{entries_onto}
use Rattle.literal_index.proofs.Orders.{at_place}
use Rattle.literal_index.proofs.RowLemmas.{agree, differ, none-under}

abbrev pub at : Place → Place → Bool
at q = is_at (place_order q)

-- the entries of the ads
abbrev pub rows_entries : List Row → List (Place × Entry)
rows_entries [] = []
rows_entries (r ∷ rows) = entries_onto r.slot 0 (attributes_at r.ad 0) (rows_entries rows)

-- ---- attributes by their places

-- the attribute at a place among those from place i on
abbrev get_from : ℕ → List (List ℕ × Tree) → ℕ → Option (List ℕ × Tree)
get_from i [] k = None
get_from i (a ∷ attrs) k = cond (k == i) (Some a) (get_from (suc i) attrs k)

here : (i : ℕ) → (i + 0 == i) ≡ true
here i = grind arith

further : (i k : ℕ) → (i + suc k == i) ≡ false
further i k = grind arith

shifted : (i k : ℕ) → i + suc k ≡ suc i + k
shifted i k = omega arith

get_from-slice : (i : ℕ) (attrs : List (List ℕ × Tree)) (k : ℕ) → get_from i attrs (i + k) ≡ slice_get attrs k
get_from-slice i [] k = refl
get_from-slice i (a ∷ attrs) zero = ap (λ b. cond b (Some a) (get_from (suc i) attrs (i + 0))) (here i)
get_from-slice i (a ∷ attrs) (suc k) =
    ap (λ b. cond b (Some a) (get_from (suc i) attrs (i + suc k))) (further i k) ∙ ap (get_from (suc i) attrs) (shifted i k) ∙ get_from-slice (suc i) attrs k

get_from-below : (i : ℕ) (attrs : List (List ℕ × Tree)) (k : ℕ) → k < i → get_from i attrs k ≡ None
get_from-below i [] k less = refl
get_from-below i (a ∷ attrs) k less =
    let ne : k ≢ i =
    omega (arith, less) in ap (λ b. cond b (Some a) (get_from (suc i) attrs k)) (differ k i ne) ∙ get_from-below (suc i) attrs k (omega (arith, less))

-- ---- look-ups

module _ (q : Place) (slot : ℕ) (rest : List (Place × Entry)) where
  -- an ad under another slot
  onto-other : (q.slot ≡ slot → ⊥) → (k : ℕ) (attrs : List (List ℕ × Tree)) → lookup (at q) (entries_onto slot k attrs rest) ≡ lookup (at q) rest
  onto-other other k [] = refl
  onto-other other k (a ∷ attrs) = by (onto-other other (suc k) attrs) (at q (place_of slot k a)) refl
    where
      by : lookup (at q) (entries_onto slot (suc k) attrs rest) ≡ lookup (at q) rest → (b : Bool) → at q (place_of slot k a) ≡ b
          → lookup (at q) (entries_onto slot k (a ∷ attrs) rest) ≡ lookup (at q) rest
      by others true e = absurd (other (ap (λ p. p.slot) (at_place q (place_of slot k a) e)))
      by others false e = ap (λ b. cond b (Some (entry_of a)) (lookup (at q) (entries_onto slot (suc k) attrs rest))) e ∙ others

-- the entry of an attribute, if it stands at the place
abbrev placed : Place → ℕ → (List ℕ × Tree) → Option Entry
placed q slot a = cond (at q (place_of slot q.attr a)) (Some (entry_of a)) None

-- an ad in front of entries that have nothing at the place
onto : (q : Place) (slot : ℕ) (rest : List (Place × Entry)) → lookup (at q) rest ≡ None → (k : ℕ) (attrs : List (List ℕ × Tree))
    → lookup (at q) (entries_onto slot k attrs rest) ≡ option_and_then (placed q slot) (get_from k attrs q.attr)
onto q slot rest none k [] = none
onto q slot rest none k (a ∷ attrs) = by (onto q slot rest none (suc k) attrs) (at q (place_of slot k a)) refl (q.attr == k) refl
  where
    tail : Option Entry
    tail = lookup (at q) (entries_onto slot (suc k) attrs rest)

    by : tail ≡ option_and_then (placed q slot) (get_from (suc k) attrs q.attr) → (b : Bool) → at q (place_of slot k a) ≡ b → (c : Bool) → (q.attr == k) ≡ c
        → cond (at q (place_of slot k a)) (Some (entry_of a)) tail
        ≡ option_and_then (placed q slot) (cond (q.attr == k) (Some a) (get_from (suc k) attrs q.attr))
    by others b e true same =
        let attr : q.attr ≡ k = agree q.attr k same in
        by_head b e attr
        ∙ sym (ap (λ c. option_and_then (placed q slot) (cond c (Some a) (get_from (suc k) attrs q.attr))) same
        ∙ ap (λ j. cond (at q (place_of slot j a)) (Some (entry_of a)) None) attr)
      where
        by_head : (b : Bool) → at q (place_of slot k a) ≡ b → q.attr ≡ k
            → cond (at q (place_of slot k a)) (Some (entry_of a)) tail ≡ cond (at q (place_of slot k a)) (Some (entry_of a)) None
        by_head true e attr = ap (λ c. cond c (Some (entry_of a)) tail) e ∙ sym (ap (λ c. cond c (Some (entry_of a)) None) e)
        by_head false e attr =
            ap (λ c. cond c (Some (entry_of a)) tail) e ∙ others
            ∙ ap (option_and_then (placed q slot)) (get_from-below (suc k) attrs q.attr (omega (arith, attr)))
            ∙ sym (ap (λ c. cond c (Some (entry_of a)) None) e)
    by others true e false other = absurd (true≢false (sym (same_attr (ap (λ p. p.attr) (at_place q (place_of slot k a) e))) ∙ other))
      where
        same_attr : q.attr ≡ k → (q.attr == k) ≡ true
        same_attr e = grind arith
    by others false e false other =
        ap (λ c. cond c (Some (entry_of a)) tail) e ∙ others
        ∙ sym (ap (λ c. option_and_then (placed q slot) (cond c (Some a) (get_from (suc k) attrs q.attr))) other)

pub place_equal : IsEquivalence (eq_by_cmp place_order)
place_equal = eq_by_cmp_equiv place_order_total

-- what stands at a place of one ad
own : (q : Place) (slot : ℕ) → slot ≡ q.slot → (attrs : List (List ℕ × Tree)) → option_and_then (placed q slot) (slice_get attrs q.attr) ≡ entry_in attrs q
own q slot same attrs = by (slice_get attrs q.attr)
  where
    by : (o : Option (List ℕ × Tree))
        → option_and_then (placed q slot) o ≡ cond (option_map_or (λ a. is_at (place_order (place_of q.slot q.attr a)) q) o false) (option_map entry_of o) None
    by None = refl
    by (Some a) =
        ap (λ s. cond (at q (place_of s q.attr a)) (Some (entry_of a)) None) same
        ∙ ap (λ b. cond b (Some (entry_of a)) None) (place_equal.symm q (place_of q.slot q.attr a))

nothing : (q : Place) (slot : ℕ) (rows : List Row) → slot ≡ q.slot → ad_under slot rows ≡ None → entry_at rows q ≡ None
nothing q slot rows same none = ap (option_and_then (λ fs. entry_in (attributes_at fs 0) q)) (ap (λ s. ad_under s rows) (sym same) ∙ none)

-- what stands at a place of all ads
pub lookup-rows : (rows : List Row) → IsDistinct nat_eq (map (λ row. row.slot) rows) → (q : Place) → lookup (at q) (rows_entries rows) ≡ entry_at rows q
lookup-rows [] apart q = refl
lookup-rows (r ∷ rows) apart q = by (lookup-rows rows (IsDistinct-tail nat_eq r.slot (map (λ row. row.slot) rows) apart) q) (r.slot == q.slot) refl
  where
    none : ad_under r.slot rows ≡ None
    none = none-under r.slot rows (IsDistinct-head nat_eq r.slot (map (λ row. row.slot) rows) apart)

    attrs : List (List ℕ × Tree)
    attrs = attributes_at r.ad 0

    by : lookup (at q) (rows_entries rows) ≡ entry_at rows q → (b : Bool) → (r.slot == q.slot) ≡ b
        → lookup (at q) (entries_onto r.slot 0 attrs (rows_entries rows))
        ≡ option_and_then (λ fs. entry_in (attributes_at fs 0) q) (cond (r.slot == q.slot) (Some r.ad) (ad_under q.slot rows))
    by others true e =
        let same : r.slot ≡ q.slot = agree r.slot q.slot e in
        onto q r.slot (rows_entries rows) (others ∙ nothing q r.slot rows same none) 0 attrs
        ∙ ap (option_and_then (placed q r.slot)) (ap (get_from 0 attrs) (sym (zero-add q.attr)) ∙ get_from-slice 0 attrs q.attr)
        ∙ own q r.slot same attrs
        ∙ sym (ap (λ b. option_and_then (λ fs. entry_in (attributes_at fs 0) q) (cond b (Some r.ad) (ad_under q.slot rows))) e)
    by others false e =
        onto-other q r.slot (rows_entries rows) (λ same. true≢false (sym (same_slot same) ∙ e)) 0 attrs
        ∙ others
        ∙ sym (ap (λ b. option_and_then (λ fs. entry_in (attributes_at fs 0) q) (cond b (Some r.ad) (ad_under q.slot rows))) e)
      where
        same_slot : q.slot ≡ r.slot → (r.slot == q.slot) ≡ true
        same_slot e = grind arith

-- ---- no two places are equal

differ-all : (test : Place → Bool) (es : List (Place × Entry)) → lookup test es ≡ None → AllByRecursion (λ k. test k ≡ false) (keys_of es)
differ-all test [] none = tt
differ-all test (e ∷ es) none = by (differ-all test es) (test e.0) refl
  where
    by : (lookup test es ≡ None → AllByRecursion (λ k. test k ≡ false) (keys_of es)) → (b : Bool) → test e.0 ≡ b
        → AllByRecursion (λ k. test k ≡ false) (keys_of (e ∷ es))
    by rest true h = let no : Some e.1 ≡ None = sym (ap (λ b. cond b (Some e.1) (lookup test es)) h) ∙ none in absurd (cc)
    by rest false h = (h, rest (sym (ap (λ b. cond b (Some e.1) (lookup test es)) h) ∙ none))

distinct-onto : (slot : ℕ) (rest : List (Place × Entry)) → IsDistinct (eq_by_cmp place_order) (keys_of rest)
    → ((j : ℕ) (a : List ℕ × Tree) → lookup (at (place_of slot j a)) rest ≡ None)
    → (k : ℕ) (attrs : List (List ℕ × Tree)) → IsDistinct (eq_by_cmp place_order) (keys_of (entries_onto slot k attrs rest))
distinct-onto slot rest apart none k [] = apart
distinct-onto slot rest apart none k (a ∷ attrs) =
    IsDistinct-cons (eq_by_cmp place_order) (place_of slot k a) (keys_of (entries_onto slot (suc k) attrs rest))
    (differ-all (at (place_of slot k a)) (entries_onto slot (suc k) attrs rest)
    (onto (place_of slot k a) slot rest (none k a) (suc k) attrs
    ∙ ap (option_and_then (placed (place_of slot k a) slot)) (get_from-below (suc k) attrs k (omega arith))))
    (distinct-onto slot rest apart none (suc k) attrs)

pub distinct-rows : (rows : List Row) → IsDistinct nat_eq (map (λ row. row.slot) rows) → IsDistinct (eq_by_cmp place_order) (keys_of (rows_entries rows))
unfolding IsDistinct
distinct-rows [] apart = tt
distinct-rows (r ∷ rows) apart =
    let tail = IsDistinct-tail nat_eq r.slot (map (λ row. row.slot) rows) apart in
    distinct-onto r.slot (rows_entries rows) (distinct-rows rows tail)
    (λ j a. lookup-rows rows tail (place_of r.slot j a)
    ∙ nothing (place_of r.slot j a) r.slot rows refl (none-under r.slot rows (IsDistinct-head nat_eq r.slot (map (λ row. row.slot) rows) apart))) 0
    (attributes_at r.ad 0)
