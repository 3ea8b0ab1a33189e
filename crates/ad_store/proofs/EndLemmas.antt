-- The ends of lifetimes: none comes before a moment that is kept.
use Rattle.std.proofs.Common.{◌≡◌, ℕ, ◌+◌, ◌<◌, ◌≤◌, Bool, true, false, not, cond, List, [], ◌∷◌, ◌++◌, All, filter, slice_get, suc, Option, None, Some, refl}
use Rattle.std.proofs.Common.{ap, ◌∙◌, lt-ltb, arith}
use Rattle.std.proofs.lemmas.List.Elements.{All-append, All-cons, All-head, All-nil, All-tail}
use Rattle.slab.specs.Slab.{Slab, get}
use Rattle.slot_order.specs.Cells.{listed}
use Rattle.ad_store.specs.declared.entry.Entry.{Entry}
use Rattle.ad_store.specs.Held.{adverts, advert_of, end_of}
use Rattle.ad_store.specs.Stock.{Advert, EndFrom, is_live, is_named, placed, slot_beside, slots_beside, without}

abbrev ends : ℕ → Advert → Type 0
ends moment advert = moment ≤ advert.born + advert.lifetime

module _ (moment : ℕ) where
  -- ---- ads that come and leave

  pub ends-placed : (advert : Advert) (ads : List Advert) → ends moment advert → EndFrom moment ads → EndFrom moment (placed advert ads)
  ends-placed advert [] new old = All-cons (ends moment) advert [] new old
  ends-placed advert (other ∷ ads) new old =
      by (is_named advert.name other) (ends-placed advert ads new (All-tail (ends moment) other ads old))
    where
      by : (b : Bool) → EndFrom moment (placed advert ads) → EndFrom moment (cond b (advert ∷ ads) (other ∷ placed advert ads))
      by true rest = All-cons (ends moment) advert ads new (All-tail (ends moment) other ads old)
      by false rest = All-cons (ends moment) other (placed advert ads) (All-head (ends moment) other ads old) rest

  pub ends-without : (name : List ℕ) (ads : List Advert) → EndFrom moment ads → EndFrom moment (without name ads)
  ends-without name [] old = old
  ends-without name (advert ∷ ads) old = by (is_named name advert) (ends-without name ads (All-tail (ends moment) advert ads old))
    where
      by : (b : Bool) → EndFrom moment (without name ads) → EndFrom moment (cond b ads (advert ∷ without name ads))
      by true rest = All-tail (ends moment) advert ads old
      by false rest = All-cons (ends moment) advert (without name ads) (All-head (ends moment) advert ads old) rest

  pub ends-last : (advert : Advert) (ads : List Advert) → EndFrom moment ads → ends moment advert → EndFrom moment (ads ++ advert ∷ [])
  ends-last advert ads old new = All-append (ends moment) ads (advert ∷ []) old (All-cons (ends moment) advert [] new (All-nil (ends moment)))

  pub ends-sooner : (sooner : ℕ) (ads : List Advert) → sooner ≤ moment → EndFrom moment ads → EndFrom sooner ads
  ends-sooner sooner ads less all = λ k d within. omega (arith, less, all k d within)

  pub ends-slots : (table : Slab Entry) (slots : List ℕ) → All (λ slot. moment ≤ end_of (get table slot)) slots → EndFrom moment (adverts table slots)
  ends-slots table [] all = All-nil (ends moment)
  ends-slots table (s ∷ slots) all =
      All-cons (ends moment) (advert_of (get table s)) (adverts table slots) (All-head (λ slot. moment ≤ end_of (get table slot)) s slots all)
      (ends-slots table slots (All-tail (λ slot. moment ≤ end_of (get table slot)) s slots all))

  -- ---- before the first end all are live

  module _ (now : ℕ) (before : now < moment) where
    live : (advert : Advert) → ends moment advert → is_live now advert ≡ true
    live advert later = lt-ltb now (advert.born + advert.lifetime) (omega (arith, before, later))

    pub none-expired : (ads : List Advert) (slots : List ℕ) → EndFrom moment ads → slot_beside (λ advert. not (is_live now advert)) ads slots ≡ None
    none-expired [] slots all = refl
    none-expired (advert ∷ ads) [] all = refl
    none-expired (advert ∷ ads) (slot ∷ slots) all =
        ap (λ b. cond (not b) (Some slot) (slot_beside (λ advert. not (is_live now advert)) ads slots)) (live advert (All-head (ends moment) advert ads all))
        ∙ none-expired ads slots (All-tail (ends moment) advert ads all)

    pub no-expired : (ads : List Advert) (slots : List ℕ) → EndFrom moment ads → slots_beside (λ advert. not (is_live now advert)) ads slots ≡ []
    no-expired [] slots all = refl
    no-expired (advert ∷ ads) [] all = refl
    no-expired (advert ∷ ads) (slot ∷ slots) all =
        ap (λ b. cond (not b) (slot ∷ slots_beside (λ advert. not (is_live now advert)) ads slots)
        (slots_beside (λ advert. not (is_live now advert)) ads slots)) (live advert (All-head (ends moment) advert ads all))
        ∙ no-expired ads slots (All-tail (ends moment) advert ads all)

    pub all-live : (ads : List Advert) → EndFrom moment ads → filter (is_live now) ads ≡ ads
    all-live [] all = refl
    all-live (advert ∷ ads) all =
        ap (λ b. cond b (advert ∷ filter (is_live now) ads) (filter (is_live now) ads)) (live advert (All-head (ends moment) advert ads all))
        ∙ ap (λ rest. advert ∷ rest) (all-live ads (All-tail (ends moment) advert ads all))

-- ---- cells

pub all-listed : (P : ℕ → Type 0) (cells : List (Option ℕ)) → ((cell slot : ℕ) → slice_get cells cell ≡ Some (Some slot) → P slot) → All P (listed cells)
all-listed P [] all = All-nil P
all-listed P (None ∷ cells) all = all-listed P cells (λ cell slot at. all (suc cell) slot at)
all-listed P (Some s ∷ cells) all = All-cons P s (listed cells) (all 0 s refl) (all-listed P cells (λ cell slot at. all (suc cell) slot at))
