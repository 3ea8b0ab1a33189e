-- The names of resources in place of their slots.
use Rattle.std.proofs.Common.{◌≡◌, ℕ, suc, ◌+◌, Bool, true, false, not, ◌||◌, cond, eqb, List, [], ◌∷◌, ◌++◌, length, map, slice_get, Option, Some, bytes_eq}
use Rattle.std.proofs.Common.{refl, sym, ◌∙◌, ap, arith}
use Rattle.std.specs.List.{list_all, list_any, position_or_len}
use Rattle.std.specs.Option.{option_map_or}
use Rattle.std.specs.Cmp.Lexicographic.{bytes_decides}
use Rattle.std.proofs.lemmas.Bool.Decides.{nat_tests}
use Rattle.ad_store.specs.Answers.{is_added, slots_put}
use Rattle.ad_store.specs.declared.answers.Put.{Put}
use Rattle.ad_store.specs.Stock.{Advert, has, is_named, placed, slot_beside, slots_without, without}
use Rattle.ad_store.proofs.HeldLemmas.{both, placed-new}
use Rattle.claim_table.specs.Jobs.{lists}
use Rattle.pool_books.specs.Books.{name_in}

-- ---- truth values

-- two that follow from one another are one
pub same_truth : (a b : Bool) → (a ≡ true → b ≡ true) → (b ≡ true → a ≡ true) → a ≡ b
same_truth true b there back = sym (there refl)
same_truth false true there back = back refl
same_truth false false there back = refl

pub equal_numbers : (a b : ℕ) → eqb a b ≡ true → a ≡ b
equal_numbers a b is = grind (arith, nat_tests)

number_is_itself : (a b : ℕ) → a ≡ b → eqb a b ≡ true
number_is_itself a b is = grind (arith, nat_tests)

other_number : (a b c : ℕ) → a ≡ b → eqb c a ≡ false → eqb b c ≡ false
other_number a b c same apart = grind (arith, nat_tests)

-- ---- the name beside a slot

-- by recursion over the ads and their slots
abbrev pub named_beside : List Advert → List ℕ → ℕ → List ℕ
named_beside [] slots slot = []
named_beside (a ∷ ads) [] slot = a.name
named_beside (a ∷ ads) (s ∷ slots) slot = cond (eqb s slot) a.name (named_beside ads slots slot)

pub beside-is : (ads : List Advert) (slots : List ℕ) (slot : ℕ) → name_in (record { ads = ads; slots = slots }) slot ≡ named_beside ads slots slot
beside-is [] slots slot = refl
beside-is (a ∷ ads) [] slot = refl
beside-is (a ∷ ads) (s ∷ slots) slot = by (eqb s slot) (beside-is ads slots slot)
  where
    by : (b : Bool) → name_in (record { ads = ads; slots = slots }) slot ≡ named_beside ads slots slot
        → option_map_or (λ (x : Advert). x.name) (slice_get (a ∷ ads) (cond (not b) (1 + position_or_len (λ t. eqb t slot) slots) 0)) []
        ≡ cond b a.name (named_beside ads slots slot)
    by true rest = refl
    by false rest =
        let next : 1 + position_or_len (λ t. eqb t slot) slots ≡ suc (position_or_len (λ t. eqb t slot) slots) = omega arith in
        ap (λ k. option_map_or (λ (x : Advert). x.name) (slice_get (a ∷ ads) k) []) next ∙ rest

-- ads and slots side by side, where no two ads have one name, and no two have one slot
pub record AreBeside (ads : List Advert) (slots : List ℕ) : Type 0 where
  pub long : length ads ≡ length slots
  pub names : (i j : ℕ) (a b : Advert) → slice_get ads i ≡ Some a → slice_get ads j ≡ Some b → a.name ≡ b.name → i ≡ j
  pub apart : (i j slot : ℕ) → slice_get slots i ≡ Some slot → slice_get slots j ≡ Some slot → i ≡ j

-- an ad at the place of a slot, with its name
pub record Named (ads : List Advert) (slots : List ℕ) (slot : ℕ) (name : List ℕ) : Type 0 where
  pub place : ℕ
  pub advert : Advert
  pub at : slice_get ads place ≡ Some advert
  pub slot_at : slice_get slots place ≡ Some slot
  pub called : advert.name ≡ name

pub name_there : (ads : List Advert) (slots : List ℕ) (slot : ℕ) → length ads ≡ length slots → lists slots slot ≡ true
    → Named ads slots slot (named_beside ads slots slot)
name_there [] [] slot long listed = absurd (cc)
name_there [] (s ∷ slots) slot long listed = absurd (omega (arith, long))
name_there (a ∷ ads) [] slot long listed = absurd (omega (arith, long))
name_there (a ∷ ads) (s ∷ slots) slot long listed = by (eqb s slot) refl listed (λ later. name_there ads slots slot (omega (arith, long)) later)
  where
    by : (b : Bool) → eqb s slot ≡ b → (b || lists slots slot) ≡ true → (lists slots slot ≡ true → Named ads slots slot (named_beside ads slots slot))
        → Named (a ∷ ads) (s ∷ slots) slot (cond b a.name (named_beside ads slots slot))
    by true is l later = record { place = 0; advert = a; at = refl; slot_at = ap Some (equal_numbers s slot is); called = refl }
    by false is l later =
        let rest = later l in
        record { place = suc rest.place; advert = rest.advert; at = rest.at; slot_at = rest.slot_at; called = rest.called }

same_advert : (ads : List Advert) (i j : ℕ) (a b : Advert) → slice_get ads i ≡ Some a → slice_get ads j ≡ Some b → i ≡ j → a ≡ b
same_advert ads i j a b at_i at_j same = let here : ◌≡◌ {A = Option Advert} (Some a) (Some b) = sym at_i ∙ ap (slice_get ads) same ∙ at_j in cc

same_slot : (slots : List ℕ) (i j a b : ℕ) → slice_get slots i ≡ Some a → slice_get slots j ≡ Some b → i ≡ j → a ≡ b
same_slot slots i j a b at_i at_j same = let here : ◌≡◌ {A = Option ℕ} (Some a) (Some b) = sym at_i ∙ ap (slice_get slots) same ∙ at_j in cc

module _ (ads : List Advert) (slots : List ℕ) (beside : AreBeside ads slots) (i : ℕ) (a : Advert) (slot : ℕ) (at : slice_get ads i ≡ Some a)
    (slot_at : slice_get slots i ≡ Some slot) where
  -- a slot is that of an ad exactly where the name beside it is the ad's
  same_resource : (other : ℕ) → lists slots other ≡ true → bytes_eq a.name (named_beside ads slots other) ≡ eqb other slot
  same_resource other listed = same_truth _ _ (λ named. slot_is named) (λ is. name_is is)
    where
      there : Named ads slots other (named_beside ads slots other)
      there = name_there ads slots other beside.long listed

      slot_is : bytes_eq a.name (named_beside ads slots other) ≡ true → eqb other slot ≡ true
      slot_is named =
          let name : a.name ≡ there.advert.name = (bytes_decides a.name (named_beside ads slots other)).0 named ∙ sym there.called in
          let place = beside.names i there.place a there.advert at there.at name in
          number_is_itself other slot (sym (same_slot slots i there.place slot other slot_at there.slot_at place))

      name_is : eqb other slot ≡ true → bytes_eq a.name (named_beside ads slots other) ≡ true
      name_is is =
          let place = beside.apart i there.place slot slot_at (there.slot_at ∙ ap Some (equal_numbers other slot is)) in
          let advert = same_advert ads i there.place a there.advert at there.at place in
          (bytes_decides a.name (named_beside ads slots other)).1 (ap (λ (x : Advert). x.name) advert ∙ there.called)

  -- so an ad's name is among the names of slots exactly where its slot is among them
  pub listed-named : (others : List ℕ) → list_all (lists slots) others ≡ true
      → list_any (bytes_eq a.name) (map (name_in (record { ads = ads; slots = slots })) others) ≡ lists others slot
  listed-named [] stored = refl
  listed-named (other ∷ others) stored =
      let parts = both (lists slots other) (list_all (lists slots) others) stored in
      ap (λ n. bytes_eq a.name n || list_any (bytes_eq a.name) (map (name_in (record { ads = ads; slots = slots })) others)) (beside-is ads slots other)
      ∙ ap (λ b. b || list_any (bytes_eq a.name) (map (name_in (record { ads = ads; slots = slots })) others)) (same_resource other parts.0)
      ∙ ap (λ b. eqb other slot || b) (listed-named others parts.1)

-- ---- an ad that is put

beside-push : (ads : List Advert) (slots : List ℕ) (a : Advert) (s slot : ℕ) → length ads ≡ length slots → lists slots slot ≡ true
    → named_beside (ads ++ a ∷ []) (slots ++ s ∷ []) slot ≡ named_beside ads slots slot
beside-push [] [] a s slot long listed = absurd (cc)
beside-push [] (t ∷ slots) a s slot long listed = absurd (omega (arith, long))
beside-push (b ∷ ads) [] a s slot long listed = absurd (omega (arith, long))
beside-push (b ∷ ads) (t ∷ slots) a s slot long listed = by (eqb t slot) listed (λ later. beside-push ads slots a s slot (omega (arith, long)) later)
  where
    by : (c : Bool) → (c || lists slots slot) ≡ true
        → (lists slots slot ≡ true → named_beside (ads ++ a ∷ []) (slots ++ s ∷ []) slot ≡ named_beside ads slots slot)
        → cond c b.name (named_beside (ads ++ a ∷ []) (slots ++ s ∷ []) slot) ≡ cond c b.name (named_beside ads slots slot)
    by true l later = refl
    by false l later = later l

beside-replaced : (advert : Advert) (ads : List Advert) (slots : List ℕ) (slot : ℕ) → has advert.name ads ≡ true
    → named_beside (placed advert ads) slots slot ≡ named_beside ads slots slot
beside-replaced advert [] slots slot held = absurd (cc)
beside-replaced advert (a ∷ ads) slots slot held = by (is_named advert.name a) refl held slots (λ later rest. beside-replaced advert ads rest slot later)
  where
    by : (b : Bool) → is_named advert.name a ≡ b → (b || has advert.name ads) ≡ true → (list : List ℕ)
        → (has advert.name ads ≡ true → (rest : List ℕ) → named_beside (placed advert ads) rest slot ≡ named_beside ads rest slot)
        → named_beside (cond b (advert ∷ ads) (a ∷ placed advert ads)) list slot ≡ named_beside (a ∷ ads) list slot
    by true is l [] later = (bytes_decides advert.name a.name).0 is
    by true is l (s ∷ rest) later = ap (λ n. cond (eqb s slot) n (named_beside ads rest slot)) ((bytes_decides advert.name a.name).0 is)
    by false is l [] later = refl
    by false is l (s ∷ rest) later = ap (cond (eqb s slot) a.name) (later l rest)

truth_of : (b : Bool) → true ≡ not b → b ≡ false
truth_of true is = absurd (cc)
truth_of false is = refl

falsity_of : (b : Bool) → false ≡ not b → b ≡ true
falsity_of true is = refl
falsity_of false is = absurd (cc)

-- the slots that were there keep their names
pub beside-put : (put : Put) (advert : Advert) (ads : List Advert) (slots : List ℕ) (slot : ℕ) → length ads ≡ length slots
    → is_added put ≡ not (has advert.name ads) → lists slots slot ≡ true
    → named_beside (placed advert ads) (slots_put put slots) slot ≡ named_beside ads slots slot
beside-put (Put.Added s) advert ads slots slot long added listed =
    ap (λ l. named_beside l (slots ++ s ∷ []) slot) (placed-new advert ads (truth_of (has advert.name ads) added))
    ∙ beside-push ads slots advert s slot long listed
beside-put (Put.Replaced s) advert ads slots slot long added listed = beside-replaced advert ads slots slot (falsity_of (has advert.name ads) added)

lists-push : (slots : List ℕ) (s slot : ℕ) → lists slots slot ≡ true → lists (slots ++ s ∷ []) slot ≡ true
lists-push [] s slot listed = absurd (cc)
lists-push (t ∷ slots) s slot listed = by (eqb t slot) listed (λ later. lists-push slots s slot later)
  where
    by : (b : Bool) → (b || lists slots slot) ≡ true → (lists slots slot ≡ true → lists (slots ++ s ∷ []) slot ≡ true)
        → (b || lists (slots ++ s ∷ []) slot) ≡ true
    by true l later = refl
    by false l later = later l

pub lists-put : (put : Put) (slots : List ℕ) (slot : ℕ) → lists slots slot ≡ true → lists (slots_put put slots) slot ≡ true
lists-put (Put.Added s) slots slot listed = lists-push slots s slot listed
lists-put (Put.Replaced s) slots slot listed = listed

-- ---- an ad that leaves

-- the other slots keep their names
pub beside-without : (name : List ℕ) (ads : List Advert) (slots : List ℕ) (slot other : ℕ) → slot_beside (is_named name) ads slots ≡ Some slot
    → eqb other slot ≡ false → named_beside (without name ads) (slots_without name ads slots) other ≡ named_beside ads slots other
beside-without name [] slots slot other found apart = absurd (cc)
beside-without name (a ∷ ads) [] slot other found apart = absurd (cc)
beside-without name (a ∷ ads) (s ∷ slots) slot other found apart = by (is_named name a) found (λ later. beside-without name ads slots slot other later apart)
  where
    by : (b : Bool) → cond b (Some s) (slot_beside (is_named name) ads slots) ≡ Some slot
        → (slot_beside (is_named name) ads slots ≡ Some slot
        → named_beside (without name ads) (slots_without name ads slots) other ≡ named_beside ads slots other)
        → named_beside (cond b ads (a ∷ without name ads)) (cond b slots (s ∷ slots_without name ads slots)) other
        ≡ cond (eqb s other) a.name (named_beside ads slots other)
    by true is later = let here : s ≡ slot = cc in sym (ap (λ c. cond c a.name (named_beside ads slots other)) (other_number slot s other (sym here) apart))
    by false is later = ap (cond (eqb s other) a.name) (later is)

-- and stay
pub lists-without : (name : List ℕ) (ads : List Advert) (slots : List ℕ) (slot other : ℕ) → slot_beside (is_named name) ads slots ≡ Some slot
    → eqb other slot ≡ false → lists slots other ≡ true → lists (slots_without name ads slots) other ≡ true
lists-without name [] slots slot other found apart listed = absurd (cc)
lists-without name (a ∷ ads) [] slot other found apart listed = absurd (cc)
lists-without name (a ∷ ads) (s ∷ slots) slot other found apart listed =
    by (is_named name a) found listed (λ later among. lists-without name ads slots slot other later apart among)
  where
    more : (b : Bool) → (b || lists slots other) ≡ true → (lists slots other ≡ true → lists (slots_without name ads slots) other ≡ true)
        → (b || lists (slots_without name ads slots) other) ≡ true
    more true l later = refl
    more false l later = later l

    by : (b : Bool) → cond b (Some s) (slot_beside (is_named name) ads slots) ≡ Some slot → (eqb s other || lists slots other) ≡ true
        → (slot_beside (is_named name) ads slots ≡ Some slot → lists slots other ≡ true → lists (slots_without name ads slots) other ≡ true)
        → lists (cond b slots (s ∷ slots_without name ads slots)) other ≡ true
    by true is l later = let here : s ≡ slot = cc in sym (ap (λ c. c || lists slots other) (other_number slot s other (sym here) apart)) ∙ l
    by false is l later = more (eqb s other) l (λ among. later is among)
