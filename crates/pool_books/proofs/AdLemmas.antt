-- Ads beside their slots, and ads that leave.
use Rattle.std.proofs.Common.{◌≡◌, ℕ, zero, suc, ◌+◌, ◌<◌, ◌≤◌, if◌then◌else◌, Bool, true, false, not, List, [], ◌∷◌, length, find, None, Some, slice_get}
use Rattle.std.proofs.Common.{option_map, Result, Ok, Err, OnOk, OnErr, refl, sym, ◌∙◌, ap, inl, inr, arith}
use Rattle.std.proofs.lemmas.Bool.{cases_Bool}
use Rattle.std.proofs.lemmas.List.{length-map}
use Rattle.std.specs.Cmp.Lexicographic.{bytes_decides}
use Rattle.ad_store.specs.declared.store.Store.{Store}
use Rattle.ad_store.specs.Store.{stock_of}
use Rattle.ad_store.specs.Stock.{Advert, has, is_live, is_named, slot_beside, without}
use Rattle.pool_books.specs.Expiry.{live_ads}

-- an ad that passes a test, with its place and the slot beside it
pub record Beside (test : Advert → Bool) (ads : List Advert) (slots : List ℕ) (slot : ℕ) : Type 0 where
  pub place : ℕ
  pub advert : Advert
  pub at : slice_get ads place ≡ Some advert
  pub slot_at : slice_get slots place ≡ Some slot
  pub passes : test advert ≡ true
  pub found : find test ads ≡ Some advert

-- the slot that was found is that of the first ad that passes
pub slot_beside-found : (test : Advert → Bool) (ads : List Advert) (slots : List ℕ) (slot : ℕ) → slot_beside test ads slots ≡ Some slot
    → Beside test ads slots slot
slot_beside-found test [] slots slot is = absurd (cc)
slot_beside-found test (x ∷ ads) [] slot is = absurd (cc)
slot_beside-found test (x ∷ ads) (y ∷ slots) slot is =
    elim (cases_Bool (test x)) [
      | inl here ↦ record { place = 0; advert = x; at = refl; slot_at = rw here at is; passes = here; found = rw here refl }
      | inr other ↦
          let later = slot_beside-found test ads slots slot (rw other at is) in
          record { place = suc later.place; advert = later.advert; at = later.at; slot_at = later.slot_at; passes = later.passes; found = rw other later.found }
    ]

-- no slot was found where no ad passes
pub slot_beside-none : (test : Advert → Bool) (ads : List Advert) (slots : List ℕ) → length ads ≡ length slots → slot_beside test ads slots ≡ None
    → find test ads ≡ None
slot_beside-none test [] slots long none = refl
slot_beside-none test (x ∷ ads) [] long none = absurd (omega arith)
slot_beside-none test (x ∷ ads) (y ∷ slots) long none =
    elim (cases_Bool (test x)) [
      | inl here ↦ let some : Some y ≡ None = rw here at none in absurd (cc)
      | inr other ↦ rw other (slot_beside-none test ads slots (omega arith) (rw other at none))
    ]

-- a store has a slot for each ad
pub stock-length : (store : Store) → length (stock_of store).ads ≡ length (stock_of store).slots
stock-length store = length-map store.order _

pub named : (name : List ℕ) (x : Advert) → is_named name x ≡ true → name ≡ x.name
named name x is = (bytes_decides name x.name).0 is

pub is_own_name : (x : Advert) → is_named x.name x ≡ true
is_own_name x = (bytes_decides x.name x.name).1 refl

-- an ad has its own name
pub has_at : (name : List ℕ) (ads : List Advert) (i : ℕ) (a : Advert) → slice_get ads i ≡ Some a → a.name ≡ name → has name ads ≡ true
has_at name [] i a at is = absurd (cc)
has_at name (x ∷ ads) zero a at is =
    let same : x ≡ a = cc in
    let own : is_named name x ≡ true = ap (λ (n : List ℕ). is_named n x) (sym is ∙ ap (λ (y : Advert). y.name) (sym same)) ∙ is_own_name x in
    rw own refl
has_at name (x ∷ ads) (suc i) a at is =
    let later = has_at name ads i a at is in
    elim (cases_Bool (is_named name x)) [
      | inl here ↦ rw here refl
      | inr other ↦ rw other later
    ]

-- no two ads have one name
abbrev pub AreApart : List Advert → Type 0
AreApart ads = (i j : ℕ) (a b : Advert) → slice_get ads i ≡ Some a → slice_get ads j ≡ Some b → a.name ≡ b.name → i ≡ j

pub apart_behind : (x : Advert) (ads : List Advert) → AreApart (x ∷ ads) → AreApart ads
apart_behind x ads apart = λ i j a b at_a at_b same. let is : suc i ≡ suc j = apart (suc i) (suc j) a b at_a at_b same in omega arith

live_step : (now : ℕ) (x : Advert) (a b : List Advert) → live_ads now a ≡ live_ads now b → live_ads now (x ∷ a) ≡ live_ads now (x ∷ b)
live_step now x a b same =
    elim (cases_Bool (is_live now x)) [
      | inl live ↦ rw live (ap (λ (l : List Advert). x ∷ l) same)
      | inr gone ↦ rw gone same
    ]

-- an ad that isn't live may be taken out by its name
pub live-without : (now : ℕ) (name : List ℕ) (ads : List Advert) (i : ℕ) (a : Advert) → AreApart ads → slice_get ads i ≡ Some a → a.name ≡ name
    → is_live now a ≡ false → live_ads now (without name ads) ≡ live_ads now ads
live-without now name [] i a apart at is gone = refl
live-without now name (x ∷ ads) zero a apart at is gone =
    let same : x ≡ a = cc in
    let own : is_named name x ≡ true = ap (λ (n : List ℕ). is_named n x) (sym is ∙ ap (λ (y : Advert). y.name) (sym same)) ∙ is_own_name x in
    let left : is_live now x ≡ false = ap (is_live now) same ∙ gone in
    rw (own, left) refl
live-without now name (x ∷ ads) (suc i) a apart at is gone =
    elim (cases_Bool (is_named name x)) [
      | inl here ↦ let clash : suc i ≡ 0 = apart (suc i) 0 a x at refl (is ∙ named name x here) in absurd (omega arith)
      | inr other ↦ rw other (live_step now x (without name ads) ads (live-without now name ads i a (apart_behind x ads apart) at is gone))
    ]

-- one ad fewer
pub fewer-without : (name : List ℕ) (ads : List Advert) → has name ads ≡ true → length (without name ads) + 1 ≡ length ads
fewer-without name [] held = absurd (cc)
fewer-without name (x ∷ ads) held =
    elim (cases_Bool (is_named name x)) [
      | inl here ↦ rw here (omega arith)
      | inr other ↦ let later = fewer-without name ads (rw other at held) in rw other (omega arith)
    ]

-- a withdrawal of a name that is held
pub withdrawn : {T E : Type 0} (r : Result T E) (P : Type 0) (held : Bool) → held ≡ true → OnOk r P → OnErr r (held ≡ false) → P
withdrawn (Ok x) P held is done none = done
withdrawn (Err e) P held is done none = let clash : true ≡ false = sym is ∙ none in absurd (cc)

-- the name that an ad has
pub own_name : (ads : List Advert) (i : ℕ) (a : Advert) (name : List ℕ) → slice_get ads i ≡ Some a → option_map (λ x. x.name) (slice_get ads i) ≡ Some name
    → a.name ≡ name
own_name ads i a name at is = let both : Some a.name ≡ Some name = sym (ap (option_map (λ (x : Advert). x.name)) at) ∙ is in cc

pub not_live : (b : Bool) → not b ≡ true → b ≡ false
not_live true is = absurd (cc)
not_live false is = refl

pub shorter : (new old : List Advert) (name : List ℕ) → new ≡ without name old → has name old ≡ true → length new < length old
shorter new old name is held = omega (arith, ap length is, fewer-without name old held)

-- no more ads are live than there are
pub live-le : (now : ℕ) (ads : List Advert) → length (live_ads now ads) ≤ length ads
live-le now [] = omega arith
live-le now (x ∷ ads) = by (live-le now ads) (is_live now x)
  where
    by : length (live_ads now ads) ≤ length ads → (b : Bool) → length (if b then x ∷ live_ads now ads else live_ads now ads) ≤ length (x ∷ ads)
    by rest true = omega (arith, rest)
    by rest false = omega (arith, rest)
