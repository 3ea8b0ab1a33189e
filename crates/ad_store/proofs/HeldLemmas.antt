-- Ads, their slots, and the names that lead to them.
use Rattle.std.proofs.Common.{◌≡◌, ◌≢◌, ℕ, zero, suc, ◌⊎◌, inl, inr, Bool, true, false, not, ◌&&◌, ◌||◌, cond, eqb, List, [], ◌∷◌, ◌++◌, slice_get, Option}
use Rattle.std.proofs.Common.{None, Some, is_some, Contains, refl, sym, ◌∙◌, ap, subst, arith}
use Rattle.std.specs.List.{list_any}
use Rattle.std.proofs.lemmas.Bool.Decides.{nat_tests}
use Rattle.std.proofs.lemmas.Option.{same_Some}
use Rattle.std.proofs.lemmas.Slice.Eq.{bytes_eq-Decides}
use Rattle.slab.specs.Slab.{Slab, get}
use Rattle.slab.proofs.SlabLemmas.{Contains-cons, Contains-cons_cases}
use Rattle.slot_order.specs.Slots.{are_apart}
use Rattle.ad_store.specs.declared.entry.Entry.{Entry}
use Rattle.ad_store.specs.Held.{AreHeld, advert_of, adverts}
use Rattle.ad_store.specs.Stock.{Advert, has, is_named, placed, slot_beside, without}

pub both : (a b : Bool) → (a && b) ≡ true → (a ≡ true) × (b ≡ true)
both true b is = (refl, is)
both false b is = absurd (cc)

pub neither : (a b : Bool) → (a || b) ≡ false → (a ≡ false) × (b ≡ false)
neither false b is = (refl, is)
neither true b is = absurd (cc)

negated : (a : Bool) → not a ≡ true → a ≡ false
negated false is = refl
negated true is = absurd (cc)

pub different : (a b : ℕ) → eqb a b ≡ false → a ≢ b
different a b is = λ same. grind (arith, nat_tests)

pub number_of : (a b : ℕ) → eqb a b ≡ true → a ≡ b
number_of a b is = grind (arith, nat_tests)

pub same_number : (k : ℕ) → eqb k k ≡ true
same_number k = grind (arith, nat_tests)

-- ---- ads without slots

pub placed-new : (advert : Advert) (ads : List Advert) → has advert.name ads ≡ false → placed advert ads ≡ ads ++ advert ∷ []
placed-new advert [] new = refl
placed-new advert (other ∷ ads) new =
    let parts = neither _ _ new in
    ap (λ b. cond b (advert ∷ ads) (other ∷ placed advert ads)) parts.0 ∙ ap (λ l. other ∷ l) (placed-new advert ads parts.1)

pub without-absent : (name : List ℕ) (ads : List Advert) → has name ads ≡ false → without name ads ≡ ads
without-absent name [] absent = refl
without-absent name (other ∷ ads) absent =
    let parts = neither _ _ absent in
    ap (λ b. cond b ads (other ∷ without name ads)) parts.0 ∙ ap (λ l. other ∷ l) (without-absent name ads parts.1)

-- ---- slots that are there

-- a slot is among others
abbrev pub among : ℕ → List ℕ → Bool
among slot slots = list_any (λ s. eqb s slot) slots

pub among-here : (slot : ℕ) (slots : List ℕ) → among slot (slot ∷ slots) ≡ true
among-here slot slots = ap (λ b. b || among slot slots) (same_number slot)

pub among-later : (s slot : ℕ) (slots : List ℕ) → among slot slots ≡ true → among slot (s ∷ slots) ≡ true
among-later s slot slots later = by (eqb s slot) (among slot slots) later
  where
    by : (a b : Bool) → b ≡ true → (a || b) ≡ true
    by true b is = refl
    by false b is = is

pub among-cases : (s slot : ℕ) (slots : List ℕ) → among slot (s ∷ slots) ≡ true → (s ≡ slot) ⊎ (among slot slots ≡ true)
among-cases s slot slots is = by (eqb s slot) refl is
  where
    by : (b : Bool) → eqb s slot ≡ b → (b || among slot slots) ≡ true → (s ≡ slot) ⊎ (among slot slots ≡ true)
    by true tells is = inl (number_of s slot tells)
    by false tells is = inr is

pub contained-among : (slots : List ℕ) (slot : ℕ) → Contains slots slot → among slot slots ≡ true
contained-among [] slot contained = absurd (omega (arith, contained.1))
contained-among (s ∷ slots) slot contained = by (Contains-cons_cases s slot slots contained) (λ rest. contained-among slots slot rest)
  where
    by : (s ≡ slot) ⊎ Contains slots slot → (Contains slots slot → among slot slots ≡ true) → among slot (s ∷ slots) ≡ true
    by (inl here) later = subst (λ k. among k (s ∷ slots) ≡ true) here (among-here s slots)
    by (inr rest) later = among-later s slot slots (later rest)

pub among-contained : (slots : List ℕ) (slot : ℕ) → among slot slots ≡ true → Contains slots slot
among-contained [] slot is = absurd (cc)
among-contained (s ∷ slots) slot is = by (among-cases s slot slots is) (λ rest. among-contained slots slot rest)
  where
    by : (s ≡ slot) ⊎ (among slot slots ≡ true) → (among slot slots ≡ true → Contains slots slot) → Contains (s ∷ slots) slot
    by (inl here) later = (0, omega arith, here)
    by (inr rest) later = Contains-cons s slot slots (later rest)

pub among-at : (slots : List ℕ) (i slot : ℕ) → slice_get slots i ≡ Some slot → among slot slots ≡ true
among-at [] i slot at = absurd (cc)
among-at (s ∷ slots) zero slot at = subst (λ k. among k (s ∷ slots) ≡ true) (same_Some s slot at) (among-here s slots)
among-at (s ∷ slots) (suc i) slot at = among-later s slot slots (among-at slots i slot at)

-- the first of slots that are apart isn't among the others
pub apart-first : (s : ℕ) (slots : List ℕ) → are_apart (s ∷ slots) ≡ true → among s slots ≡ false
apart-first s slots apart = negated (among s slots) (both (not (among s slots)) (are_apart slots) apart).0

pub apart-rest : (s : ℕ) (slots : List ℕ) → are_apart (s ∷ slots) ≡ true → are_apart slots ≡ true
apart-rest s slots apart = (both (not (among s slots)) (are_apart slots) apart).1

-- ---- the slot beside an ad

module _ (table : Slab Entry) (test : Advert → Bool) where
  pub beside-some : (slots : List ℕ) (slot : ℕ) → slot_beside test (adverts table slots) slots ≡ Some slot
      → (among slot slots ≡ true) × (test (advert_of (get table slot)) ≡ true)
  beside-some [] slot found = absurd (cc)
  beside-some (s ∷ slots) slot found = by (test (advert_of (get table s))) refl found (λ rest. beside-some slots slot rest)
    where
      by : (b : Bool) → test (advert_of (get table s)) ≡ b → cond b (Some s) (slot_beside test (adverts table slots) slots) ≡ Some slot
          → (slot_beside test (adverts table slots) slots ≡ Some slot → (among slot slots ≡ true) × (test (advert_of (get table slot)) ≡ true))
          → (among slot (s ∷ slots) ≡ true) × (test (advert_of (get table slot)) ≡ true)
      by true is at later =
          let same = same_Some s slot at in
          (subst (λ k. among k (s ∷ slots) ≡ true) same (among-here s slots), subst (λ k. test (advert_of (get table k)) ≡ true) same is)
      by false is at later = let rest = later at in (among-later s slot slots rest.0, rest.1)

  pub beside-none : (slots : List ℕ) → slot_beside test (adverts table slots) slots ≡ None → (slot : ℕ) → among slot slots ≡ true
      → test (advert_of (get table slot)) ≡ false
  beside-none [] none slot is = absurd (cc)
  beside-none (s ∷ slots) none slot is = by (test (advert_of (get table s))) refl none (λ rest. beside-none slots rest slot)
    where
      by : (b : Bool) → test (advert_of (get table s)) ≡ b → cond b (Some s) (slot_beside test (adverts table slots) slots) ≡ None
          → (slot_beside test (adverts table slots) slots ≡ None → among slot slots ≡ true → test (advert_of (get table slot)) ≡ false)
          → test (advert_of (get table slot)) ≡ false
      by true tells none later = absurd (cc)
      by false tells none later = here (among-cases s slot slots is)
        where
          here : (s ≡ slot) ⊎ (among slot slots ≡ true) → test (advert_of (get table slot)) ≡ false
          here (inl same) = subst (λ k. test (advert_of (get table k)) ≡ false) same tells
          here (inr rest) = later none rest

  pub any-beside : (slots : List ℕ) → list_any test (adverts table slots) ≡ is_some (slot_beside test (adverts table slots) slots)
  any-beside [] = refl
  any-beside (s ∷ slots) = by (test (advert_of (get table s))) (any-beside slots)
    where
      by : (b : Bool) → list_any test (adverts table slots) ≡ is_some (slot_beside test (adverts table slots) slots)
          → (b || list_any test (adverts table slots)) ≡ is_some (cond b (Some s) (slot_beside test (adverts table slots) slots))
      by true rest = refl
      by false rest = rest

-- ---- names

module _ (table : Slab Entry) (slots : List ℕ) (names : List ℕ → Option ℕ) (held : AreHeld table slots names) where
  -- a name leads to the slot beside its ad
  pub named-beside : (name : List ℕ) → slot_beside (is_named name) (adverts table slots) slots ≡ names name
  named-beside name = by (slot_beside (is_named name) (adverts table slots) slots) refl
    where
      by : (o : Option ℕ) → slot_beside (is_named name) (adverts table slots) slots ≡ o → o ≡ names name
      by (Some slot) is =
          let found = beside-some table (is_named name) slots slot is in
          sym (ap names ((bytes_eq-Decides name (advert_of (get table slot)).name).0 found.1) ∙ held.led slot found.0)
      by None is = leading (names name) refl
        where
          leading : (o : Option ℕ) → names name ≡ o → None ≡ o
          leading None told = refl
          leading (Some slot) told =
              let there = held.leads name slot told in
              let passes : is_named name (advert_of (get table slot)) ≡ true = (bytes_eq-Decides name (advert_of (get table slot)).name).1 (sym there.1) in
              let fails = beside-none table (is_named name) slots is slot there.0 in
              absurd (cc)

  pub has-named : (name : List ℕ) → has name (adverts table slots) ≡ is_some (names name)
  has-named name = any-beside table (is_named name) slots ∙ ap is_some (named-beside name)

  -- the ad in the slot that a name leads to is the only one of the name
  pub only : (name : List ℕ) (slot : ℕ) → names name ≡ Some slot → (s : ℕ) → among s slots ≡ true → is_named name (advert_of (get table s)) ≡ eqb s slot
  only name slot leads s there = by (is_named name (advert_of (get table s))) refl (eqb s slot) refl
    where
      by : (a : Bool) → is_named name (advert_of (get table s)) ≡ a → (b : Bool) → eqb s slot ≡ b → a ≡ b
      by true named true is = refl
      by false named false is = refl
      by true named false is =
          let same : Some slot ≡ Some s = sym leads ∙ ap names ((bytes_eq-Decides name (advert_of (get table s)).name).0 named) ∙ held.led s there in
          absurd (different s slot is (sym (same_Some slot s same)))
      by false named true is =
          let name_is = ap (λ k. (advert_of (get table k)).name) (number_of s slot is) ∙ (held.leads name slot leads).1 in
          let passes : is_named name (advert_of (get table s)) ≡ true = (bytes_eq-Decides name (advert_of (get table s)).name).1 (sym name_is) in
          absurd (cc)
