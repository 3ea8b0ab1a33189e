-- Ads under slots, as they come and go.
use Rattle.std.proofs.Common.{refl, arith, ◌≡◌, ◌≢◌, ◌∙◌, ap, sym, true≢false, ℕ, Bool, true, false, ◌&&◌, ◌==◌, cond, List, [], ◌∷◌, ◌++◌, map, length, Option}
use Rattle.std.proofs.Common.{None, Some, option_map, slice_get, is_some, nat_lt, nat_eq, nat_cmp}
use Rattle.std.specs.List.{AllByRecursion}
use Rattle.std.specs.Option.{option_and_then, option_map_or}
use Rattle.std.specs.BTreeMap.{BTreeMap, get, is_at}
use Rattle.std.specs.BTreeSet.{BTreeSet, contains}
use Rattle.std.proofs.lemmas.Option.{slice_get_past}
use Rattle.ad_tree.specs.Tree.{Tree}
use Rattle.ad_tree.specs.Frames.{Frame, attributes_at}
use Rattle.literal_index.specs.declared.place.Place.{Place}
use Rattle.literal_index.specs.declared.entry.Entry.{Entry}
use Rattle.literal_index.specs.Rows.{Row, ad_under, row_of}
use Rattle.literal_index.specs.Entries.{entry_in, entry_of, is_place, place_of}
use Rattle.literal_index.specs.Order.{place_order}
use Rattle.literal_index.specs.Changes.{HasPut, HasTaken, IsSame, is_place_below}
use Rattle.literal_index.specs.Shown.{ArePlaced, with_ad}
use Rattle.literal_index.proofs.Orders.{at_place}

-- ---- numbers

pub differ : (a b : ℕ) → a ≢ b → (a == b) ≡ false
differ a b ne = grind (arith, ne)

pub agree : (a b : ℕ) → (a == b) ≡ true → a ≡ b
agree a b e = grind arith

pub at_number : (a b : ℕ) → is_at (nat_cmp a) b ≡ (a == b)
at_number a b = grind arith

-- ---- the ad under a slot

module _ (slot : ℕ) (fs : List Frame) where
  -- with one more
  pub ad_under-middle : (before after : List Row) (s : ℕ) → ad_under slot (before ++ after) ≡ None
      → ad_under s (before ++ row_of slot fs ∷ after) ≡ cond (slot == s) (Some fs) (ad_under s (before ++ after))
  ad_under-middle [] after s none = refl
  ad_under-middle (r ∷ before) after s none = by (ad_under-middle before after s) (r.slot == slot) (r.slot == s) refl refl
    where
      by : (ad_under slot (before ++ after) ≡ None → ad_under s (before ++ row_of slot fs ∷ after) ≡ cond (slot == s) (Some fs) (ad_under s (before ++ after)))
          → (here there : Bool) → (r.slot == slot) ≡ here → (r.slot == s) ≡ there
          → cond (r.slot == s) (Some r.ad) (ad_under s (before ++ row_of slot fs ∷ after))
          ≡ cond (slot == s) (Some fs) (cond (r.slot == s) (Some r.ad) (ad_under s (before ++ after)))
      by rest true there h t = let no : Some r.ad ≡ None = sym (ap (λ b. cond b (Some r.ad) (ad_under slot (before ++ after))) h) ∙ none in absurd (cc)
      by rest false true h t =
          let other : slot ≢ s = λ e. true≢false (sym (ap (λ n. r.slot == n) e ∙ t) ∙ h) in
          ap (λ b. cond b (Some r.ad) (ad_under s (before ++ row_of slot fs ∷ after))) t
          ∙ sym (ap (λ b. cond b (Some fs) (cond (r.slot == s) (Some r.ad) (ad_under s (before ++ after)))) (differ slot s other)
          ∙ ap (λ b. cond b (Some r.ad) (ad_under s (before ++ after))) t)
      by rest false false h t =
          ap (λ b. cond b (Some r.ad) (ad_under s (before ++ row_of slot fs ∷ after))) t
          ∙ rest (sym (ap (λ b. cond b (Some r.ad) (ad_under slot (before ++ after))) h) ∙ none)
          ∙ sym (ap (λ b. cond (slot == s) (Some fs) (cond b (Some r.ad) (ad_under s (before ++ after)))) t)

-- no ad is under a slot that differs from all
pub none-under : (slot : ℕ) (rows : List Row) → AllByRecursion (λ s. nat_eq slot s ≡ false) (map (λ row. row.slot) rows) → ad_under slot rows ≡ None
none-under slot [] h = refl
none-under slot (r ∷ rows) h =
    ap (λ b. cond b (Some r.ad) (ad_under slot rows)) (differ r.slot slot (λ e. true≢false (sym (same e) ∙ h.0)))
    ∙ none-under slot rows h.1
  where
    same : r.slot ≡ slot → nat_eq slot r.slot ≡ true
    same e = grind arith

pub all-differ : (slot : ℕ) (rows : List Row) → ad_under slot rows ≡ None → AllByRecursion (λ s. nat_eq slot s ≡ false) (map (λ row. row.slot) rows)
all-differ slot [] none = tt
all-differ slot (r ∷ rows) none = by (all-differ slot rows) (r.slot == slot) refl
  where
    other : (r.slot == slot) ≡ false → nat_eq slot r.slot ≡ false
    other e = grind arith

    by : (ad_under slot rows ≡ None → AllByRecursion (λ s. nat_eq slot s ≡ false) (map (λ row. row.slot) rows))
        → (b : Bool) → (r.slot == slot) ≡ b → AllByRecursion (λ s. nat_eq slot s ≡ false) (map (λ row. row.slot) (r ∷ rows))
    by rest true e = let no : Some r.ad ≡ None = sym (ap (λ b. cond b (Some r.ad) (ad_under slot rows)) e) ∙ none in absurd (cc)
    by rest false e = (other e, rest (sym (ap (λ b. cond b (Some r.ad) (ad_under slot rows)) e) ∙ none))

-- ---- places of an ad

-- a place is below the number of all attributes
pub all-below : (slot : ℕ) (attrs : List (List ℕ × Tree)) (q : Place) → is_place_below (length attrs) slot attrs q ≡ is_place slot attrs q
all-below slot attrs q = by (nat_lt q.attr (length attrs)) refl
  where
    by : (b : Bool) → nat_lt q.attr (length attrs) ≡ b → is_place_below (length attrs) slot attrs q ≡ is_place slot attrs q
    by true e = ap (λ b. b && is_place slot attrs q) e
    by false e =
        ap (λ b. b && is_place slot attrs q) e
        ∙ sym (ap (λ o. option_map_or (λ a. is_at (place_order (place_of slot q.attr a)) q) o false) (slice_get_past attrs q.attr (grind arith)))

-- a place of an ad is under its slot
pub place-slot : (slot : ℕ) (attrs : List (List ℕ × Tree)) (q : Place) → is_place slot attrs q ≡ true → slot ≡ q.slot
place-slot slot attrs q here = by (slice_get attrs q.attr) here
  where
    by : (o : Option (List ℕ × Tree)) → option_map_or (λ a. is_at (place_order (place_of slot q.attr a)) q) o false ≡ true → slot ≡ q.slot
    by None h = absurd (cc)
    by (Some a) h = ap (λ p. p.slot) (at_place (place_of slot q.attr a) q h)

not-place : (slot : ℕ) (attrs : List (List ℕ × Tree)) (q : Place) → (slot ≡ q.slot → ⊥) → is_place slot attrs q ≡ false
not-place slot attrs q other = by (is_place slot attrs q) refl
  where
    by : (b : Bool) → is_place slot attrs q ≡ b → is_place slot attrs q ≡ false
    by false e = e
    by true e = absurd (other (place-slot slot attrs q e))

-- ---- what stands under slots changes

-- all but the ad under this slot
abbrev pub without_ad : ℕ → (ℕ → Option (List Frame)) → ℕ → Option (List Frame)
without_ad slot under s = cond (slot == s) None (under s)

-- what stands at a place of the ad under its slot
abbrev stood : Place → Option (List Frame) → Option Entry
stood q = option_and_then (λ gs. entry_in (attributes_at gs 0) q)

-- the same ads under slots are as well those of the entries and the slots
pub same-placed : (m : BTreeMap Place Entry) (slots : BTreeSet ℕ) (under other : ℕ → Option (List Frame)) → ((s : ℕ) → under s ≡ other s)
    → ArePlaced m slots under → ArePlaced m slots other
same-placed m slots under other same placed = record {
  entries = λ q. placed.entries q ∙ ap (option_and_then (λ gs. entry_in (attributes_at gs 0) q)) (same q.slot);
  slots = λ s. placed.slots s ∙ ap is_some (same s);
}

module _ (slot : ℕ) (fs : List Frame) (under : ℕ → Option (List Frame)) (m n : BTreeMap Place Entry) (slots more : BTreeSet ℕ) where
  abbrev attrs : List (List ℕ × Tree)
  attrs = attributes_at fs 0

  pub entered : ArePlaced m slots under → under slot ≡ None → HasPut (length attrs) slot attrs m n
      → ((s : ℕ) → contains nat_cmp more s ≡ cond (is_at (nat_cmp slot) s) true (contains nat_cmp slots s)) → ArePlaced n more (with_ad slot fs under)
  entered placed none put inserted = record {
    entries =
        λ q. put q ∙ ap (λ b. cond b (option_map entry_of (slice_get attrs q.attr)) (get place_order m q)) (all-below slot attrs q)
        ∙ at_q q (slot == q.slot) refl;
    slots = λ s. inserted s ∙ ap (λ b. cond b true (contains nat_cmp slots s)) (at_number slot s) ∙ at_s s (slot == s) refl;
  }
    where
      at_s : (s : ℕ) (b : Bool) → (slot == s) ≡ b → cond (slot == s) true (contains nat_cmp slots s) ≡ is_some (with_ad slot fs under s)
      at_s s true e = ap (λ b. cond b true (contains nat_cmp slots s)) e ∙ sym (ap (λ b. is_some (cond b (Some fs) (under s))) e)
      at_s s false e = ap (λ b. cond b true (contains nat_cmp slots s)) e ∙ placed.slots s ∙ sym (ap (λ b. is_some (cond b (Some fs) (under s))) e)

      at_q : (q : Place) (b : Bool) → (slot == q.slot) ≡ b
          → cond (is_place slot attrs q) (option_map entry_of (slice_get attrs q.attr)) (get place_order m q) ≡ stood q (with_ad slot fs under q.slot)
      at_q q true e =
          let same : slot ≡ q.slot = agree slot q.slot e in
          let empty : get place_order m q ≡ None = placed.entries q ∙ ap (stood q) (ap under (sym same) ∙ none) in
          ap (cond (is_place slot attrs q) (option_map entry_of (slice_get attrs q.attr))) empty
          ∙ ap (λ s. cond (is_place s attrs q) (option_map entry_of (slice_get attrs q.attr)) None) same
          ∙ sym (ap (λ b. stood q (cond b (Some fs) (under q.slot))) e)
      at_q q false e =
          let other : is_place slot attrs q ≡ false = not-place slot attrs q (λ same. true≢false (sym (grind (arith, same)) ∙ e)) in
          ap (λ b. cond b (option_map entry_of (slice_get attrs q.attr)) (get place_order m q)) other
          ∙ placed.entries q
          ∙ sym (ap (λ b. stood q (cond b (Some fs) (under q.slot))) e)

  pub left : ArePlaced m slots under → under slot ≡ Some fs → HasTaken (length attrs) slot attrs m n
      → ((s : ℕ) → contains nat_cmp more s ≡ cond (is_at (nat_cmp slot) s) false (contains nat_cmp slots s)) → ArePlaced n more (without_ad slot under)
  left placed here out removed = record {
    entries = λ q. out q ∙ ap (λ b. cond b None (get place_order m q)) (all-below slot attrs q) ∙ at_q q (slot == q.slot) refl;
    slots = λ s. removed s ∙ ap (λ b. cond b false (contains nat_cmp slots s)) (at_number slot s) ∙ at_s s (slot == s) refl;
  }
    where
      at_s : (s : ℕ) (b : Bool) → (slot == s) ≡ b → cond (slot == s) false (contains nat_cmp slots s) ≡ is_some (without_ad slot under s)
      at_s s true e = ap (λ b. cond b false (contains nat_cmp slots s)) e ∙ sym (ap (λ b. is_some (cond b None (under s))) e)
      at_s s false e = ap (λ b. cond b false (contains nat_cmp slots s)) e ∙ placed.slots s ∙ sym (ap (λ b. is_some (cond b None (under s))) e)

      either : (q : Place) (b : Bool) → is_place slot attrs q ≡ b → is_place q.slot attrs q ≡ b → cond (is_place slot attrs q) None (entry_in attrs q) ≡ None
      either q true h k = ap (λ b. cond b None (entry_in attrs q)) h
      either q false h k = ap (λ b. cond b None (entry_in attrs q)) h ∙ ap (λ b. cond b (option_map entry_of (slice_get attrs q.attr)) None) k

      at_q : (q : Place) (b : Bool) → (slot == q.slot) ≡ b → cond (is_place slot attrs q) None (get place_order m q) ≡ stood q (without_ad slot under q.slot)
      at_q q true e =
          let same : slot ≡ q.slot = agree slot q.slot e in
          ap (cond (is_place slot attrs q) None) (placed.entries q ∙ ap (stood q) (ap under (sym same) ∙ here))
          ∙ either q (is_place q.slot attrs q) (ap (λ s. is_place s attrs q) same) refl
          ∙ sym (ap (λ b. stood q (cond b None (under q.slot))) e)
      at_q q false e =
          let other : is_place slot attrs q ≡ false = not-place slot attrs q (λ same. true≢false (sym (grind (arith, same)) ∙ e)) in
          ap (λ b. cond b None (get place_order m q)) other
          ∙ placed.entries q
          ∙ sym (ap (λ b. stood q (cond b None (under q.slot))) e)

-- what was put under a slot and taken out again leaves all as it was
pub unchanged : (slot : ℕ) (attrs : List (List ℕ × Tree)) (under : ℕ → Option (List Frame)) (m n : BTreeMap Place Entry) (slots mid back : BTreeSet ℕ)
    → ArePlaced m slots under → under slot ≡ None
    → (((q : Place) → is_place slot attrs q ≡ true → get place_order m q ≡ None) → IsSame m n)
    → ((s : ℕ) → contains nat_cmp mid s ≡ cond (is_at (nat_cmp slot) s) true (contains nat_cmp slots s))
    → ((s : ℕ) → contains nat_cmp back s ≡ cond (is_at (nat_cmp slot) s) false (contains nat_cmp mid s)) → ArePlaced n back under
unchanged slot attrs under m n slots mid back placed none same inserted removed = record {
  entries = λ q. same empty q ∙ placed.entries q;
  slots = λ s. removed s ∙ ap (λ b. cond b false (contains nat_cmp mid s)) (at_number slot s) ∙ at_s s (slot == s) refl;
}
  where
    empty : (q : Place) → is_place slot attrs q ≡ true → get place_order m q ≡ None
    empty q here = placed.entries q ∙ ap (stood q) (ap under (sym (place-slot slot attrs q here)) ∙ none)

    at_s : (s : ℕ) (b : Bool) → (slot == s) ≡ b → cond (slot == s) false (contains nat_cmp mid s) ≡ is_some (under s)
    at_s s true e = ap (λ b. cond b false (contains nat_cmp mid s)) e ∙ sym (ap is_some (ap under (sym (agree slot s e)) ∙ none))
    at_s s false e =
        ap (λ b. cond b false (contains nat_cmp mid s)) e ∙ inserted s
        ∙ ap (λ b. cond b true (contains nat_cmp slots s)) (at_number slot s ∙ e) ∙ placed.slots s
