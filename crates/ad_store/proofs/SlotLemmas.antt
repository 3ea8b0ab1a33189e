-- Places in the order, and the ads there.
use Rattle.std.proofs.Common.{◌≡◌, ℕ, zero, suc, Bool, true, false, not, cond, List, [], ◌∷◌, filter, get_or, All, slice_get, Option, None, Some, IfNone, IfOk}
use Rattle.std.proofs.Common.{IfSome, Result, Ok, Err, Contains, refl, sym, ◌∙◌, ap, subst, arith}
use Rattle.std.specs.List.{find}
use Rattle.std.specs.Prelude.{option_map}
use Rattle.std.proofs.lemmas.Option.{none-some, same_Some, slice_get-map}
use Rattle.std.proofs.lemmas.List.Elements.{All-cons, All-nil}
use Rattle.slab.specs.Slab.{Slab, get}
use Rattle.slab.proofs.SlabLemmas.{Contains-cons}
use Rattle.slot_order.specs.Slots.{are_apart}
use Rattle.ad_store.specs.declared.entry.Entry.{Entry}
use Rattle.ad_store.specs.Held.{AreHeld, advert_of, adverts, named_content}
use Rattle.ad_store.specs.Stock.{Advert, is_live, slot_beside, slots_beside}
use Rattle.ad_store.proofs.HeldLemmas.{among, among-at, among-contained, apart-first, apart-rest, beside-some}

-- ---- what lies in a slot

pub advert_there : (table : Slab Entry) (slot : ℕ) (e : Entry) (slots : List ℕ) (i : ℕ) → get table slot ≡ Some e → slice_get slots i ≡ Some slot
    → slice_get (adverts table slots) i ≡ Some (named_content e.name e.content)
advert_there table slot e slots i there at =
    slice_get-map (λ s. advert_of (get table s)) slots i ∙ ap (option_map (λ s. advert_of (get table s))) at ∙ ap (λ o. Some (advert_of o)) there

-- ---- slots and names apart

pub one_slot : (slots : List ℕ) → are_apart slots ≡ true → (i j slot : ℕ) → slice_get slots i ≡ Some slot → slice_get slots j ≡ Some slot → i ≡ j
one_slot [] apart i j slot at_i at_j = absurd (none-some slot at_i)
one_slot (s ∷ slots) apart zero zero slot at_i at_j = refl
one_slot (s ∷ slots) apart zero (suc j) slot at_i at_j =
    let there = subst (λ k. among k slots ≡ true) (sym (same_Some s slot at_i)) (among-at slots j slot at_j) in
    let none = apart-first s slots apart in
    absurd (cc)
one_slot (s ∷ slots) apart (suc i) zero slot at_i at_j =
    let there = subst (λ k. among k slots ≡ true) (sym (same_Some s slot at_j)) (among-at slots i slot at_i) in
    let none = apart-first s slots apart in
    absurd (cc)
one_slot (s ∷ slots) apart (suc i) (suc j) slot at_i at_j = ap suc (one_slot slots (apart-rest s slots apart) i j slot at_i at_j)

slot_of_ad : (table : Slab Entry) (slots : List ℕ) (i : ℕ) (a : Advert) → slice_get (adverts table slots) i ≡ Some a
    → (slot : ℕ) × (slice_get slots i ≡ Some slot) × (advert_of (get table slot) ≡ a)
slot_of_ad table slots i a at = by (slice_get slots i) refl
  where
    by : (o : Option ℕ) → slice_get slots i ≡ o → (slot : ℕ) × (slice_get slots i ≡ Some slot) × (advert_of (get table slot) ≡ a)
    by None is =
        let none : slice_get (adverts table slots) i ≡ None =
        slice_get-map (λ s. advert_of (get table s)) slots i ∙ ap (option_map (λ s. advert_of (get table s))) is in
        absurd (none-some a (sym none ∙ at))
    by (Some slot) is =
        let some : slice_get (adverts table slots) i ≡ Some (advert_of (get table slot)) =
        slice_get-map (λ s. advert_of (get table s)) slots i ∙ ap (option_map (λ s. advert_of (get table s))) is in
        (slot, is, same_Some (advert_of (get table slot)) a (sym some ∙ at))

pub one_name : (table : Slab Entry) (slots : List ℕ) (names : List ℕ → Option ℕ) → AreHeld table slots names → are_apart slots ≡ true
    → (i j : ℕ) (a b : Advert) → slice_get (adverts table slots) i ≡ Some a → slice_get (adverts table slots) j ≡ Some b → a.name ≡ b.name → i ≡ j
one_name table slots names held apart i j a b at_i at_j same =
    let one = slot_of_ad table slots i a at_i in
    let other = slot_of_ad table slots j b at_j in
    let led_one : names a.name ≡ Some one.0 = ap (λ x. names x.name) (sym one.2) ∙ held.led one.0 (among-at slots i one.0 one.1) in
    let led_other : names b.name ≡ Some other.0 = ap (λ x. names x.name) (sym other.2) ∙ held.led other.0 (among-at slots j other.0 other.1) in
    let slot_same : one.0 ≡ other.0 = same_Some one.0 other.0 (sym led_one ∙ ap names same ∙ led_other) in
    one_slot slots apart i j one.0 one.1 (other.1 ∙ ap (λ k. Some k) (sym slot_same))

-- ---- time

pub find-slot_beside : (table : Slab Entry) (now : ℕ) (slots : List ℕ)
    → find (λ s. not (is_live now (advert_of (get table s)))) slots ≡ slot_beside (λ a. not (is_live now a)) (adverts table slots) slots
find-slot_beside table now [] = refl
find-slot_beside table now (s ∷ slots) = ap (cond (not (is_live now (advert_of (get table s)))) (Some s)) (find-slot_beside table now slots)

none_expired : (table : Slab Entry) (now : ℕ) (slots : List ℕ) → slot_beside (λ a. not (is_live now a)) (adverts table slots) slots ≡ None
    → filter (is_live now) (adverts table slots) ≡ adverts table slots
none_expired table now [] none = refl
none_expired table now (s ∷ slots) none = by_time (is_live now (advert_of (get table s))) none (λ rest. none_expired table now slots rest)
  where
    by_time : (b : Bool) → cond (not b) (Some s) (slot_beside (λ a. not (is_live now a)) (adverts table slots) slots) ≡ None
        → (slot_beside (λ a. not (is_live now a)) (adverts table slots) slots ≡ None → filter (is_live now) (adverts table slots) ≡ adverts table slots)
        → cond b (advert_of (get table s) ∷ filter (is_live now) (adverts table slots)) (filter (is_live now) (adverts table slots)) ≡ adverts table (s ∷ slots)
    by_time true is later = ap (λ ads. advert_of (get table s) ∷ ads) (later is)
    by_time false is later = absurd (cc)

pub live_if_none : (table : Slab Entry) (now : ℕ) (slots : List ℕ) (o : Option ℕ) → o ≡ slot_beside (λ a. not (is_live now a)) (adverts table slots) slots
    → IfNone o (filter (is_live now) (adverts table slots) ≡ adverts table slots)
live_if_none table now slots None told = none_expired table now slots (sym told)
live_if_none table now slots (Some slot) told = tt

pub held_if_some : (test : Advert → Bool) (table : Slab Entry) (slots : List ℕ) (o : Option ℕ) → o ≡ slot_beside test (adverts table slots) slots
    → IfSome o (Contains slots)
held_if_some test table slots None told = tt
held_if_some test table slots (Some slot) told = among-contained slots slot (beside-some table test slots slot (sym told)).0

pub filter-slots_beside : (table : Slab Entry) (now : ℕ) (slots : List ℕ)
    → filter (λ s. not (is_live now (advert_of (get table s)))) slots ≡ slots_beside (λ a. not (is_live now a)) (adverts table slots) slots
filter-slots_beside table now [] = refl
filter-slots_beside table now (s ∷ slots) =
    ap (λ l. cond (not (is_live now (advert_of (get table s)))) (s ∷ l) l) (filter-slots_beside table now slots)

module _ (test : Advert → Bool) where
  beside_held : (ads : List Advert) (slots : List ℕ) → All (Contains slots) (slots_beside test ads slots)
  beside_held [] slots = All-nil (Contains slots)
  beside_held (advert ∷ ads) [] = All-nil (Contains [])
  beside_held (advert ∷ ads) (s ∷ slots) = by (test advert) (wider (slots_beside test ads slots) (beside_held ads slots))
    where
      wider : (found : List ℕ) → All (Contains slots) found → All (Contains (s ∷ slots)) found
      wider found all = λ k d within. Contains-cons s (get_or found k d) slots (all k d within)

      by : (b : Bool) → All (Contains (s ∷ slots)) (slots_beside test ads slots)
          → All (Contains (s ∷ slots)) (cond b (s ∷ slots_beside test ads slots) (slots_beside test ads slots))
      by true rest = All-cons (Contains (s ∷ slots)) s (slots_beside test ads slots) (0, omega arith, refl) rest
      by false rest = rest

  pub held_if_told : {E : Type 0} (ads : List Advert) (slots : List ℕ) (told : Result (List ℕ) E) → IfOk told (λ found. found ≡ slots_beside test ads slots)
      → IfOk told (All (Contains slots))
  held_if_told ads slots (Ok found) is = subst (All (Contains slots)) (sym is) (beside_held ads slots)
  held_if_told ads slots (Err fault) is = tt
