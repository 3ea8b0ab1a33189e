-- Ads that wait, as they come, go and are settled.
use Rattle.std.proofs.Common.{refl, arith, ◌≡◌, ◌∙◌, ap, sym, subst, ℕ, Bool, true, false, ◌==◌, cond, List, [], ◌∷◌, ◌++◌, map, Option, None, Some, IfSome}
use Rattle.std.proofs.Common.{is_some, nat_eq, nat_cmp, IsPermutation}
use Rattle.std.specs.List.{IsDistinct, list_any}
use Rattle.std.specs.Map.{lookup}
use Rattle.std.specs.Option.{option_and_then}
use Rattle.std.specs.BTreeMap.{BTreeMap, get, is_at}
use Rattle.std.specs.BTreeSet.{BTreeSet}
use Rattle.std.specs.Cmp.{nat_eq_equiv}
use Rattle.std.proofs.lemmas.List.Elements.{All-cons, All-tail}
use Rattle.std.proofs.lemmas.List.Sorted.{All-permutation, IsPermutation-map, IsPermutation-middle, IsPermutation-sym}
use Rattle.std.proofs.lemmas.Map.Keys.{IsDistinct-cons, IsDistinct-head, IsDistinct-tail, IsDistinct-IsPermutation}
use Rattle.ad_tree.specs.declared.ad.Ad.{Ad}
use Rattle.ad_tree.specs.Ad.{ad_frames}
use Rattle.ad_tree.specs.Frames.{Frame, attributes_at}
use Rattle.literal_index.specs.declared.place.Place.{Place}
use Rattle.literal_index.specs.declared.entry.Entry.{Entry}
use Rattle.literal_index.specs.Entries.{entry_in}
use Rattle.literal_index.specs.Order.{place_order}
use Rattle.literal_index.specs.Rows.{Row, ad_under, row_of}
use Rattle.literal_index.specs.Shown.{AreIndexed, AreKept, ArePlaced, IsRow, settled_under}
use Rattle.literal_index.proofs.RowLemmas.{ad_under-middle, agree, all-differ, at_number, none-under, same-placed, without_ad}

-- another map of those that wait, in which this is so of one slot
abbrev Waits : ℕ → Option Ad → BTreeMap ℕ Ad → BTreeMap ℕ Ad → Type 0
Waits slot ad old new = (s : ℕ) → get nat_cmp new s ≡ cond (is_at (nat_cmp slot) s) ad (get nat_cmp old s)

module _ (slot : ℕ) (ad : Option Ad) (old new : BTreeMap ℕ Ad) (changed : Waits slot ad old new) where
  at_slot : (s : ℕ) → (slot == s) ≡ true → get nat_cmp new s ≡ ad
  at_slot s e = changed s ∙ ap (λ b. cond b ad (get nat_cmp old s)) (at_number slot s ∙ e)

  elsewhere : (s : ℕ) → (slot == s) ≡ false → get nat_cmp new s ≡ get nat_cmp old s
  elsewhere s e = changed s ∙ ap (λ b. cond b ad (get nat_cmp old s)) (at_number slot s ∙ e)

  -- what is said of a slot under the same ads is said of all, if it is said of this one
  waits-again : (rows others : List Row) → ((s : ℕ) → IfSome (get nat_cmp old s) (λ a. ad_under s rows ≡ Some (ad_frames a)))
      → ((s : ℕ) → (slot == s) ≡ false → ad_under s rows ≡ ad_under s others)
      → IfSome ad (λ a. ad_under slot others ≡ Some (ad_frames a))
      → (s : ℕ) → IfSome (get nat_cmp new s) (λ a. ad_under s others ≡ Some (ad_frames a))
  waits-again rows others before same here s = by (slot == s) refl
    where
      by : (b : Bool) → (slot == s) ≡ b → IfSome (get nat_cmp new s) (λ a. ad_under s others ≡ Some (ad_frames a))
      by true e =
          subst (λ (o : Option Ad). IfSome o (λ a. ad_under s others ≡ Some (ad_frames a))) (sym (at_slot s e))
          (subst (λ t. IfSome ad (λ a. ad_under t others ≡ Some (ad_frames a))) (agree slot s e) here)
      by false e =
          subst (λ (o : Option Ad). IfSome o (λ a. ad_under s others ≡ Some (ad_frames a))) (sym (elsewhere s e))
          (subst (λ (u : Option (List Frame)). IfSome (get nat_cmp old s) (λ a. u ≡ Some (ad_frames a))) (same s e) (before s))

nobody : (b : Bool) → ◌≡◌ {A = Option (List Frame)} (cond b None None) None
nobody true = refl
nobody false = refl

module _ (slot : ℕ) (fs : List Frame) (before after : List Row) where
  abbrev rows : List Row
  rows = before ++ after

  abbrev with_row : List Row
  with_row = before ++ row_of slot fs ∷ after

  moved : IsPermutation with_row (row_of slot fs ∷ rows)
  moved = IsPermutation-middle before (row_of slot fs) after

  found : (s : ℕ) → ad_under slot rows ≡ None → (slot == s) ≡ true → ad_under s with_row ≡ Some fs
  found s none e = ad_under-middle slot fs before after s none ∙ ap (λ b. cond b (Some fs) (ad_under s rows)) e

  others : (s : ℕ) → ad_under slot rows ≡ None → (slot == s) ≡ false → ad_under s rows ≡ ad_under s with_row
  others s none e = sym (ad_under-middle slot fs before after s none ∙ ap (λ b. cond b (Some fs) (ad_under s rows)) e)

  -- an ad that was added waits
  pub kept-added : (m : BTreeMap Place Entry) (slots : BTreeSet ℕ) (old new : BTreeMap ℕ Ad) (ad : Ad) → AreKept m slots old rows → ad_under slot rows ≡ None
      → IsRow (row_of slot fs)
      → fs ≡ ad_frames ad → Waits slot (Some ad) old new → AreKept m slots new with_row
  kept-added m slots old new ad kept none good is changed = record {
    settled = same-placed m slots (settled_under old rows) (settled_under new with_row) (λ s. at_s s (slot == s) refl) kept.settled;
    waiting = waits-again slot (Some ad) old new changed rows with_row kept.waiting (λ s. others s none) (found slot none (itself slot) ∙ ap Some is);
    apart = IsDistinct-IsPermutation nat_eq nat_eq_equiv.symm _ _ (IsPermutation-map (λ row. row.slot) _ _ (IsPermutation-sym _ _ moved))
        (IsDistinct-cons nat_eq slot (map (λ row. row.slot) rows) (all-differ slot rows none) kept.apart);
    ads = All-permutation IsRow _ _ (IsPermutation-sym _ _ moved) (All-cons IsRow (row_of slot fs) rows good kept.ads);
  }
    where
      itself : (a : ℕ) → (a == a) ≡ true
      itself a = grind arith

      at_s : (s : ℕ) (b : Bool) → (slot == s) ≡ b → settled_under old rows s ≡ settled_under new with_row s
      at_s s true e =
          ap (λ t. cond (is_some (get nat_cmp old s)) None (ad_under t rows)) (sym (agree slot s e))
          ∙ ap (cond (is_some (get nat_cmp old s)) None) none
          ∙ nobody (is_some (get nat_cmp old s))
          ∙ sym (ap (λ (o : Option Ad). cond (is_some o) None (ad_under s with_row)) (at_slot slot (Some ad) old new changed s e))
      at_s s false e =
          ap (cond (is_some (get nat_cmp old s)) None) (others s none e)
          ∙ sym (ap (λ (o : Option Ad). cond (is_some o) None (ad_under s with_row)) (elsewhere slot (Some ad) old new changed s e))

  module _ (m : BTreeMap Place Entry) (slots : BTreeSet ℕ) (old new : BTreeMap ℕ Ad) (kept : AreKept m slots old with_row)
      (changed : Waits slot None old new) where
    distinct : IsDistinct nat_eq (slot ∷ map (λ row. row.slot) rows)
    distinct = IsDistinct-IsPermutation nat_eq nat_eq_equiv.symm _ _ (IsPermutation-map (λ row. row.slot) _ _ moved) kept.apart

    pub none : ad_under slot rows ≡ None
    none = none-under slot rows (IsDistinct-head nat_eq slot (map (λ row. row.slot) rows) distinct)

    -- the others are as they were
    pub others-settled : (s : ℕ) → without_ad slot (settled_under old with_row) s ≡ settled_under new rows s
    others-settled s = at_s (slot == s) refl
      where
        at_s : (b : Bool) → (slot == s) ≡ b → without_ad slot (settled_under old with_row) s ≡ settled_under new rows s
        at_s true e =
            ap (λ b. cond b None (settled_under old with_row s)) e
            ∙ sym (ap (λ t. cond (is_some (get nat_cmp new s)) None (ad_under t rows)) (sym (agree slot s e))
            ∙ ap (cond (is_some (get nat_cmp new s)) None) none ∙ nobody (is_some (get nat_cmp new s)))
        at_s false e =
            ap (λ b. cond b None (settled_under old with_row s)) e
            ∙ ap (cond (is_some (get nat_cmp old s)) None) (sym (others s none e))
            ∙ sym (ap (λ (o : Option Ad). cond (is_some o) None (ad_under s rows)) (elsewhere slot None old new changed s e))

    -- an ad that left, whether it waited or was settled
    pub kept-left : (n : BTreeMap Place Entry) (more : BTreeSet ℕ) → ArePlaced n more (without_ad slot (settled_under old with_row)) → AreKept n more new rows
    kept-left n more placed = record {
      settled = same-placed n more (without_ad slot (settled_under old with_row)) (settled_under new rows) others-settled placed;
      waiting = waits-again slot None old new changed with_row rows kept.waiting (λ s e. sym (others s none e)) tt;
      apart = IsDistinct-tail nat_eq slot (map (λ row. row.slot) rows) distinct;
      ads = All-tail IsRow (row_of slot fs) rows (All-permutation IsRow _ _ moved kept.ads);
    }

    -- one that waited isn't among what is searched
    pub waited-outside : is_some (get nat_cmp old slot) ≡ true → ArePlaced m slots (without_ad slot (settled_under old with_row))
    waited-outside waited =
        same-placed m slots (settled_under old with_row) (without_ad slot (settled_under old with_row)) (λ s. at_s s (slot == s) refl) kept.settled
      where
        at_s : (s : ℕ) (b : Bool) → (slot == s) ≡ b → settled_under old with_row s ≡ without_ad slot (settled_under old with_row) s
        at_s s true e =
            ap (λ b. cond b None (ad_under s with_row)) (ap (λ t. is_some (get nat_cmp old t)) (sym (agree slot s e)) ∙ waited)
            ∙ sym (ap (λ b. cond b None (settled_under old with_row s)) e)
        at_s s false e = sym (ap (λ b. cond b None (settled_under old with_row s)) e)

    -- and one that didn't is
    pub settled-inside : get nat_cmp old slot ≡ None → settled_under old with_row slot ≡ Some fs
    settled-inside gone = ap (λ (o : Option Ad). cond (is_some o) None (ad_under slot with_row)) gone ∙ found slot none (itself slot)
      where
        itself : (a : ℕ) → (a == a) ≡ true
        itself a = grind arith

-- ---- settling

-- where none waits all are settled
pub all-settled : (m : BTreeMap Place Entry) (slots : BTreeSet ℕ) (w : BTreeMap ℕ Ad) (rows : List Row) → ((s : ℕ) → get nat_cmp w s ≡ None)
    → AreKept m slots w rows → AreIndexed m slots rows
all-settled m slots w rows empty kept =
    let placed =
    same-placed m slots (settled_under w rows) (λ s. ad_under s rows) (λ s. ap (λ (o : Option Ad). cond (is_some o) None (ad_under s rows)) (empty s))
    kept.settled in
    record { entries = placed.entries; slots = placed.slots; apart = kept.apart; ads = kept.ads }

-- an index of no ads
pub none-kept : (m : BTreeMap Place Entry) (slots : BTreeSet ℕ) (w : BTreeMap ℕ Ad) → m.entries ≡ [] → slots.keys ≡ [] → w.entries ≡ [] → AreKept m slots w []
unfolding IsDistinct
none-kept m slots w no_entries no_slots no_ads = record {
  settled = record {
    entries =
        λ q. ap (lookup (is_at (place_order q))) no_entries
        ∙ sym (ap (option_and_then (λ fs. entry_in (attributes_at fs 0) q)) (nobody (is_some (get nat_cmp w q.slot))));
    slots = λ s. ap (list_any (is_at (nat_cmp s))) no_slots ∙ sym (ap is_some (nobody (is_some (get nat_cmp w s))));
  };
  waiting = λ s. subst (λ (o : Option Ad). IfSome o (λ a. ad_under s [] ≡ Some (ad_frames a))) (sym (ap (lookup (is_at (nat_cmp s))) no_ads)) tt;
  apart = tt;
  ads = λ k d less. absurd (omega (arith, less));
}
