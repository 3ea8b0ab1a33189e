-- An ad under a name that is held.
use Rattle.std.proofs.Common.{◌≡◌, ℕ, ◌+◌, ◌-◌, ◌<◌, ◌≤◌, true, false, not, List, Option, None, Some, is_some, IfSome, bytes_eq, cond, eqb, refl, sym, ◌∙◌, ap}
use Rattle.std.proofs.Common.{arith}
use Rattle.std.specs.Option.{option_map_or}
use Rattle.slab.specs.Slab.{ContainsKey, Slab, Updates, get}
use Rattle.slot_order.specs.Slots.{are_apart, without as slots_left}
use Rattle.ad_store.specs.declared.answers.PutFault.{PutFault}
use Rattle.ad_store.specs.declared.entry.Content.{Content}
use Rattle.ad_store.specs.declared.entry.Entry.{Entry}
use Rattle.ad_store.specs.Held.{AreHeld, advert_of, adverts, named_content}
use Rattle.ad_store.specs.Stock.{has, is_named, lack, placed, slot_beside, slots_without, text_held, without}
use Rattle.ad_store.proofs.HeldLemmas.{among, has-named, named-beside, only}
use Rattle.ad_store.proofs.ChangeLemmas.{gone_ads, gone_held, gone_slots, replaced_ads, replaced_held, text_held-found, text_held-placed}
use Rattle.ad_store.proofs.RoomLemmas.{lack-none, lack-text, place_held}

entry_from : (o : Option Entry) → is_some o ≡ true → (e : Entry) × (o ≡ Some e)
entry_from None is = absurd (cc)
entry_from (Some e) is = (e, refl)

module _ (table : Slab Entry) (slots : List ℕ) (names : List ℕ → Option ℕ) (name : List ℕ) (slot text : ℕ)
    (held : AreHeld table slots names) (apart : are_apart slots ≡ true) (counted : text ≡ text_held (adverts table slots))
    (told : Some slot ≡ slot_beside (is_named name) (adverts table slots) slots) where
  pub leads : names name ≡ Some slot
  leads = sym (told ∙ named-beside table slots names held name)

  pub there : among slot slots ≡ true
  there = (held.leads name slot leads).0

  alone : (s : ℕ) → among s slots ≡ true → is_named name (advert_of (get table s)) ≡ eqb s slot
  alone = only table slots names held name slot leads

  pub is_there : ContainsKey table slot
  is_there = held.filled slot there

  pub is_held : has name (adverts table slots) ≡ true
  is_held = has-named table slots names held name ∙ ap is_some leads

  pub no_addition : not (has name (adverts table slots)) ≡ false
  no_addition = ap not is_held

  -- the texts without that of the ad that is there
  pub others_text : text ≡ text_held (without name (adverts table slots)) + (advert_of (get table slot)).size
  others_text = omega (arith, counted, text_held-found table name slot slots alone there)

  -- ---- another takes its place

  module _ (size had : ℕ) (is_had : had ≡ option_map_or (λ e. e.content.size) (get table slot) 0) where
    pub held-text : 33554432 < (text - had) + size → lack name size (adverts table slots) ≡ Some PutFault.FullText
    held-text heavy = lack-text name size (adverts table slots) (place_held name (adverts table slots) is_held) (omega (arith, others_text, is_had, heavy))

    pub held-none : (text - had) + size ≤ 33554432 → lack name size (adverts table slots) ≡ None
    held-none light = lack-none name size (adverts table slots) (place_held name (adverts table slots) is_held) (omega (arith, others_text, is_had, light))

  module _ (new : Slab Entry) (content : Content) (renewed : IfSome (get table slot)
      (λ e. Updates table new slot (Some (record { name = e.name; content = content })))) where
    entry : (e : Entry) × (get table slot ≡ Some e)
    entry = entry_from (get table slot) is_there

    is_name : entry.0.name ≡ name
    is_name = ap (λ o. (advert_of o).name) (sym entry.1) ∙ (held.leads name slot leads).1

    changes : Updates table new slot (Some (record { name = entry.0.name; content = content }))
    changes = rw entry.1 at renewed

    pub renewed_held : AreHeld new slots names
    renewed_held =
        replaced_held table new slots names slot held (record { name = entry.0.name; content = content }) changes (ap (λ o. (advert_of o).name) (sym entry.1))

    pub renewed_ads : adverts new slots ≡ placed (named_content name content) (adverts table slots)
    renewed_ads =
        replaced_ads table new slot (Some (record { name = entry.0.name; content = content })) changes name is_name slots alone apart there
        ∙ ap (λ n. placed (named_content n content) (adverts table slots)) is_name

    pub renewed_text : (had : ℕ) → had ≡ option_map_or (λ e. e.content.size) (get table slot) 0 → (text - had) + content.size ≡ text_held (adverts new slots)
    renewed_text had is_had = omega (arith, others_text, is_had, ap text_held renewed_ads, text_held-placed (named_content name content) (adverts table slots))

    pub renewed_slot : slot_beside (is_named name) (adverts new slots) slots ≡ Some slot
    renewed_slot = named-beside new slots names renewed_held name ∙ leads

  -- ---- it leaves

  module _ (new : Slab Entry) (changes : Updates table new slot None) where
    pub left_held : (later : List ℕ → Option ℕ) → ((other : List ℕ) → later other ≡ cond (bytes_eq name other) None (names other))
        → AreHeld new (slots_left slot slots) later
    left_held later turns = gone_held table new slots names slot held later name changes apart leads turns

    pub left_ads : adverts new (slots_left slot slots) ≡ without name (adverts table slots)
    left_ads = gone_ads table new slot None changes name slots alone apart

  pub left_slots : slots_left slot slots ≡ slots_without name (adverts table slots) slots
  left_slots = gone_slots table name slot slots alone
