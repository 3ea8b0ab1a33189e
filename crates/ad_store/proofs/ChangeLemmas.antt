-- An ad takes the place of another, leaves, or comes.
use Rattle.std.proofs.Common.{◌≡◌, ◌≢◌, ℕ, ◌+◌, ◌≤◌, ◌⊎◌, inl, inr, Bool, true, false, ◌||◌, cond, eqb, List, [], ◌∷◌, ◌++◌, length, Option, None, Some}
use Rattle.std.proofs.Common.{is_some, bytes_eq, refl, sym, ◌∙◌, ap, subst, arith}
use Rattle.std.proofs.lemmas.List.Sums.{sum_by-cons}
use Rattle.std.proofs.lemmas.Option.{same_Some}
use Rattle.std.proofs.lemmas.Slice.Eq.{bytes_eq-Decides}
use Rattle.slab.specs.Slab.{ContainsKey, Slab, Updates, get}
use Rattle.slot_order.specs.Slots.{are_apart, with_last, without as slots_left}
use Rattle.ad_store.specs.declared.entry.Entry.{Entry}
use Rattle.ad_store.specs.Held.{AreHeld, advert_of, adverts}
use Rattle.ad_store.specs.Stock.{Advert, is_named, placed, slots_without, text_held, without}
use Rattle.ad_store.proofs.HeldLemmas.{among, among-cases, among-here, among-later, apart-first, apart-rest, different, neither, number_of, only, same_number}

abbrev size_of : Advert → ℕ
size_of advert = advert.size

-- a slot that isn't the first is among the others
among-rest : (s slot : ℕ) (slots : List ℕ) → eqb s slot ≡ false → among slot (s ∷ slots) ≡ true → among slot slots ≡ true
among-rest s slot slots other is = sym (ap (λ b. b || among slot slots) other) ∙ is

module _ (old new : Slab Entry) (slot : ℕ) (now : Option Entry) (changes : Updates old new slot now) where
  pub others_stay : (slots : List ℕ) → among slot slots ≡ false → adverts new slots ≡ adverts old slots
  others_stay [] out = refl
  others_stay (s ∷ slots) out =
      let parts = neither _ _ out in
      ap (λ o. advert_of o ∷ adverts new slots) (changes.others s (different s slot parts.0))
      ∙ ap (λ ads. advert_of (get old s) ∷ ads) (others_stay slots parts.1)

  module _ (name : List ℕ) where
    -- what is known of the first of the slots
    first-test : (s : ℕ) (slots : List ℕ) → ((t : ℕ) → among t (s ∷ slots) ≡ true → is_named name (advert_of (get old t)) ≡ eqb t slot)
        → is_named name (advert_of (get old s)) ≡ eqb s slot
    first-test s slots alone = alone s (among-here s slots)

    pub replaced_ads : (advert_of now).name ≡ name → (slots : List ℕ) → ((s : ℕ) → among s slots ≡ true → is_named name (advert_of (get old s)) ≡ eqb s slot)
        → are_apart slots ≡ true → among slot slots ≡ true → adverts new slots ≡ placed (advert_of now) (adverts old slots)
    replaced_ads is_name [] alone apart there = absurd (cc)
    replaced_ads is_name (s ∷ slots) alone apart there =
        by (eqb s slot) refl (λ rest. replaced_ads is_name slots (λ t is. alone t (among-later s t slots is)) (apart-rest s slots apart) rest)
      where
        by : (b : Bool) → eqb s slot ≡ b → (among slot slots ≡ true → adverts new slots ≡ placed (advert_of now) (adverts old slots))
            → adverts new (s ∷ slots) ≡ cond (is_named (advert_of now).name (advert_of (get old s))) (advert_of now ∷ adverts old slots) (advert_of (get old s)
            ∷ placed (advert_of now) (adverts old slots))
        by true is later =
            let same = number_of s slot is in
            let test = ap (λ n. is_named n (advert_of (get old s))) is_name ∙ first-test s slots alone ∙ is in
            ap (λ o. advert_of o ∷ adverts new slots) (ap (get new) same ∙ changes.changed)
            ∙ ap (λ ads. advert_of now ∷ ads) (others_stay slots (subst (λ k. among k slots ≡ false) same (apart-first s slots apart)))
            ∙ sym (ap (λ b. cond b (advert_of now ∷ adverts old slots) (advert_of (get old s) ∷ placed (advert_of now) (adverts old slots))) test)
        by false is later =
            let test = ap (λ n. is_named n (advert_of (get old s))) is_name ∙ first-test s slots alone ∙ is in
            ap (λ o. advert_of o ∷ adverts new slots) (changes.others s (different s slot is))
            ∙ ap (λ ads. advert_of (get old s) ∷ ads) (later (among-rest s slot slots is there))
            ∙ sym (ap (λ b. cond b (advert_of now ∷ adverts old slots) (advert_of (get old s) ∷ placed (advert_of now) (adverts old slots))) test)

    pub gone_ads : (slots : List ℕ) → ((s : ℕ) → among s slots ≡ true → is_named name (advert_of (get old s)) ≡ eqb s slot) → are_apart slots ≡ true
        → adverts new (slots_left slot slots) ≡ without name (adverts old slots)
    gone_ads [] alone apart = refl
    gone_ads (s ∷ slots) alone apart = by (eqb s slot) refl (gone_ads slots (λ t is. alone t (among-later s t slots is)) (apart-rest s slots apart))
      where
        by : (b : Bool) → eqb s slot ≡ b → adverts new (slots_left slot slots) ≡ without name (adverts old slots)
            → adverts new (cond b slots (s ∷ slots_left slot slots))
            ≡ cond (is_named name (advert_of (get old s))) (adverts old slots) (advert_of (get old s) ∷ without name (adverts old slots))
        by true is rest =
            others_stay slots (subst (λ k. among k slots ≡ false) (number_of s slot is) (apart-first s slots apart))
            ∙ sym (ap (λ b. cond b (adverts old slots) (advert_of (get old s) ∷ without name (adverts old slots))) (first-test s slots alone ∙ is))
        by false is rest =
            ap (λ o. advert_of o ∷ adverts new (slots_left slot slots)) (changes.others s (different s slot is))
            ∙ ap (λ ads. advert_of (get old s) ∷ ads) rest
            ∙ sym (ap (λ b. cond b (adverts old slots) (advert_of (get old s) ∷ without name (adverts old slots))) (first-test s slots alone ∙ is))

-- ---- slots and texts

module _ (table : Slab Entry) (name : List ℕ) (slot : ℕ) where
  pub gone_slots : (slots : List ℕ) → ((s : ℕ) → among s slots ≡ true → is_named name (advert_of (get table s)) ≡ eqb s slot)
      → slots_left slot slots ≡ slots_without name (adverts table slots) slots
  gone_slots [] alone = refl
  gone_slots (s ∷ slots) alone =
      ap (cond (eqb s slot) slots) (ap (λ l. s ∷ l) (gone_slots slots (λ t is. alone t (among-later s t slots is))))
      ∙ sym (ap (λ b. cond b slots (s ∷ slots_without name (adverts table slots) slots)) (alone s (among-here s slots)))

  -- the texts together are those of the others and the text of the one in the slot
  pub text_held-found : (slots : List ℕ) → ((s : ℕ) → among s slots ≡ true → is_named name (advert_of (get table s)) ≡ eqb s slot) → among slot slots ≡ true
      → text_held (adverts table slots) ≡ text_held (without name (adverts table slots)) + (advert_of (get table slot)).size
  text_held-found [] alone there = absurd (cc)
  text_held-found (s ∷ slots) alone there =
      sum_by-cons size_of (advert_of (get table s)) (adverts table slots)
      ∙ by (eqb s slot) refl (λ rest. text_held-found slots (λ t is. alone t (among-later s t slots is)) rest)
      ∙ ap (λ b. text_held (cond b (adverts table slots) (advert_of (get table s) ∷ without name (adverts table slots))) + (advert_of (get table slot)).size)
      (sym (alone s (among-here s slots)))
    where
      by : (b : Bool) → eqb s slot ≡ b
          → (among slot slots ≡ true → text_held (adverts table slots) ≡ text_held (without name (adverts table slots)) + (advert_of (get table slot)).size)
          → (advert_of (get table s)).size + text_held (adverts table slots)
          ≡ text_held (cond b (adverts table slots) (advert_of (get table s) ∷ without name (adverts table slots))) + (advert_of (get table slot)).size
      by true is later =
          let same = ap (λ k. (advert_of (get table k)).size) (number_of s slot is) in
          omega (arith, same)
      by false is later =
          let first = sum_by-cons size_of (advert_of (get table s)) (without name (adverts table slots)) in
          let rest = later (among-rest s slot slots is there) in
          omega (arith, first, rest)

-- an ad that takes a place brings its text to those of the others
pub text_held-placed : (advert : Advert) (ads : List Advert) → text_held (placed advert ads) ≡ text_held (without advert.name ads) + advert.size
text_held-placed advert [] = omega arith
text_held-placed advert (other ∷ ads) = by_name (is_named advert.name other) (text_held-placed advert ads)
  where
    by_name : (b : Bool) → text_held (placed advert ads) ≡ text_held (without advert.name ads) + advert.size
        → text_held (cond b (advert ∷ ads) (other ∷ placed advert ads)) ≡ text_held (cond b ads (other ∷ without advert.name ads)) + advert.size
    by_name true rest = let first = sum_by-cons size_of advert ads in omega (arith, first)
    by_name false rest =
        let put = sum_by-cons size_of other (placed advert ads) in
        let left = sum_by-cons size_of other (without advert.name ads) in
        omega (arith, put, left, rest)

-- ---- slots that come and leave

pub left-among : (s slot : ℕ) (slots : List ℕ) → are_apart slots ≡ true → among s (slots_left slot slots) ≡ true → (s ≢ slot) × (among s slots ≡ true)
left-among s slot [] apart is = absurd (cc)
left-among s slot (t ∷ slots) apart is = by (eqb t slot) refl is (λ rest. left-among s slot slots (apart-rest t slots apart) rest)
  where
    by : (b : Bool) → eqb t slot ≡ b → among s (cond b slots (t ∷ slots_left slot slots)) ≡ true
        → (among s (slots_left slot slots) ≡ true → (s ≢ slot) × (among s slots ≡ true)) → (s ≢ slot) × (among s (t ∷ slots) ≡ true)
    by true tells is later = ((λ same. other same), among-later t s slots is)
      where
        other : s ≡ slot → ⊥
        other same =
            let first = apart-first t slots apart in
            let now = subst (λ k. among k slots ≡ true) (same ∙ sym (number_of t slot tells)) is in
            cc
    by false tells is later = here (among-cases t s (slots_left slot slots) is)
      where
        here : (t ≡ s) ⊎ (among s (slots_left slot slots) ≡ true) → (s ≢ slot) × (among s (t ∷ slots) ≡ true)
        here (inl same) = ((λ is. different t slot tells (same ∙ is)), subst (λ k. among k (t ∷ slots) ≡ true) same (among-here t slots))
        here (inr rest) = let known = later rest in (known.0, among-later t s slots known.1)

stays-among : (s slot : ℕ) (slots : List ℕ) → s ≢ slot → among s slots ≡ true → among s (slots_left slot slots) ≡ true
stays-among s slot [] other is = absurd (cc)
stays-among s slot (t ∷ slots) other is = by (eqb t slot) refl (λ rest. stays-among s slot slots other rest)
  where
    by : (b : Bool) → eqb t slot ≡ b → (among s slots ≡ true → among s (slots_left slot slots) ≡ true)
        → among s (cond b slots (t ∷ slots_left slot slots)) ≡ true
    by true tells later = here (among-cases t s slots is)
      where
        here : (t ≡ s) ⊎ (among s slots ≡ true) → among s slots ≡ true
        here (inl same) = absurd (other (sym same ∙ number_of t slot tells))
        here (inr rest) = rest
    by false tells later = here (among-cases t s slots is)
      where
        here : (t ≡ s) ⊎ (among s slots ≡ true) → among s (t ∷ slots_left slot slots) ≡ true
        here (inl same) = subst (λ k. among k (t ∷ slots_left slot slots) ≡ true) same (among-here t (slots_left slot slots))
        here (inr rest) = among-later t s (slots_left slot slots) (later rest)

last-among : (s slot : ℕ) (slots : List ℕ) → among s (slots ++ slot ∷ []) ≡ true → (among s slots ≡ true) ⊎ (s ≡ slot)
last-among s slot [] is = here (among-cases slot s [] is)
  where
    here : (slot ≡ s) ⊎ (among s [] ≡ true) → (among s [] ≡ true) ⊎ (s ≡ slot)
    here (inl same) = inr (sym same)
    here (inr none) = inl none
last-among s slot (t ∷ slots) is = here (among-cases t s (slots ++ slot ∷ []) is) (λ rest. last-among s slot slots rest)
  where
    here : (t ≡ s) ⊎ (among s (slots ++ slot ∷ []) ≡ true) → (among s (slots ++ slot ∷ []) ≡ true → (among s slots ≡ true) ⊎ (s ≡ slot))
        → (among s (t ∷ slots) ≡ true) ⊎ (s ≡ slot)
    here (inl same) later = inl (subst (λ k. among k (t ∷ slots) ≡ true) same (among-here t slots))
    here (inr rest) later = again (later rest)
      where
        again : (among s slots ≡ true) ⊎ (s ≡ slot) → (among s (t ∷ slots) ≡ true) ⊎ (s ≡ slot)
        again (inl before) = inl (among-later t s slots before)
        again (inr last) = inr last

among-push : (s slot : ℕ) (slots : List ℕ) → among s slots ≡ true → among s (slots ++ slot ∷ []) ≡ true
among-push s slot [] is = absurd (cc)
among-push s slot (t ∷ slots) is = here (among-cases t s slots is) (λ rest. among-push s slot slots rest)
  where
    here : (t ≡ s) ⊎ (among s slots ≡ true) → (among s slots ≡ true → among s (slots ++ slot ∷ []) ≡ true) → among s (t ∷ slots ++ slot ∷ []) ≡ true
    here (inl same) later = subst (λ k. among k (t ∷ slots ++ slot ∷ []) ≡ true) same (among-here t (slots ++ slot ∷ []))
    here (inr rest) later = among-later t s (slots ++ slot ∷ []) (later rest)

among-last : (slot : ℕ) (slots : List ℕ) → among slot (slots ++ slot ∷ []) ≡ true
among-last slot [] = among-here slot []
among-last slot (t ∷ slots) = among-later t slot (slots ++ slot ∷ []) (among-last slot slots)

adverts-push : (table : Slab Entry) (slots : List ℕ) (slot : ℕ) → adverts table (slots ++ slot ∷ []) ≡ adverts table slots ++ advert_of (get table slot) ∷ []
adverts-push table [] slot = refl
adverts-push table (s ∷ slots) slot = ap (λ ads. advert_of (get table s) ∷ ads) (adverts-push table slots slot)

-- ---- what stays true

module _ (old new : Slab Entry) (slots : List ℕ) (names : List ℕ → Option ℕ) (slot : ℕ) (held : AreHeld old slots names) where
  module _ (entry : Entry) (changes : Updates old new slot (Some entry)) (is_name : entry.name ≡ (advert_of (get old slot)).name) where
    name_stays : (s : ℕ) → (advert_of (get new s)).name ≡ (advert_of (get old s)).name
    name_stays s = by (eqb s slot) refl
      where
        by : (b : Bool) → eqb s slot ≡ b → (advert_of (get new s)).name ≡ (advert_of (get old s)).name
        by true is =
            let same = number_of s slot is in
            ap (λ k. (advert_of (get new k)).name) same ∙ ap (λ o. (advert_of o).name) changes.changed ∙ is_name
            ∙ ap (λ k. (advert_of (get old k)).name) (sym same)
        by false is = ap (λ o. (advert_of o).name) (changes.others s (different s slot is))

    pub replaced_held : AreHeld new slots names
    replaced_held = record {
      filled = λ s there. by s there (eqb s slot) refl;
      led = λ s there. ap names (name_stays s) ∙ held.led s there;
      leads = λ name s told. ((held.leads name s told).0, name_stays s ∙ (held.leads name s told).1);
    }
      where
        by : (s : ℕ) → among s slots ≡ true → (b : Bool) → eqb s slot ≡ b → ContainsKey new s
        by s there true is = ap is_some (ap (get new) (number_of s slot is) ∙ changes.changed)
        by s there false is = ap is_some (changes.others s (different s slot is)) ∙ held.filled s there

  module _ (later : List ℕ → Option ℕ) (name : List ℕ) where
    pub gone_held : Updates old new slot None → are_apart slots ≡ true → names name ≡ Some slot
        → ((other : List ℕ) → later other ≡ cond (bytes_eq name other) None (names other))
        → AreHeld new (slots_left slot slots) later
    gone_held changes apart told turns = record {
      filled = λ s there. let known = left-among s slot slots apart there in ap is_some (changes.others s known.0) ∙ held.filled s known.1;
      led = λ s there.
          let known = left-among s slot slots apart there in
          ap (λ o. later (advert_of o).name) (changes.others s known.0) ∙ turns (advert_of (get old s)).name ∙ led_there s known.0 known.1;
      leads = λ n s leads. by n s (bytes_eq name n) refl (sym (turns n) ∙ leads);
    }
      where
        led_there : (s : ℕ) → s ≢ slot → among s slots ≡ true
            → cond (bytes_eq name (advert_of (get old s)).name) None (names (advert_of (get old s)).name) ≡ Some s
        led_there s other there =
            let test : bytes_eq name (advert_of (get old s)).name ≡ false = only old slots names held name slot told s there ∙ not_it (eqb s slot) refl in
            ap (λ b. cond b None (names (advert_of (get old s)).name)) test ∙ held.led s there
          where
            not_it : (b : Bool) → eqb s slot ≡ b → b ≡ false
            not_it true is = absurd (other (number_of s slot is))
            not_it false is = refl

        by : (n : List ℕ) (s : ℕ) (b : Bool) → bytes_eq name n ≡ b → cond b None (names n) ≡ Some s
            → (among s (slots_left slot slots) ≡ true) × ((advert_of (get new s)).name ≡ n)
        by n s true is leads = absurd (cc)
        by n s false is leads =
            let known = held.leads n s leads in
            (stays-among s slot slots (other known.1) known.0, ap (λ o. (advert_of o).name) (changes.others s (other known.1)) ∙ known.1)
          where
            other : (advert_of (get old s)).name ≡ n → s ≢ slot
            other named = λ same.
                let equal : name ≡ n = sym (held.leads name slot told).1 ∙ ap (λ k. (advert_of (get old k)).name) (sym same) ∙ named in
                let tested = (bytes_eq-Decides name n).1 equal in
                cc

    pub entered_held : (entry : Entry) → Updates old new slot (Some entry) → entry.name ≡ name → among slot slots ≡ false → names name ≡ None
        → ((other : List ℕ) → later other ≡ cond (bytes_eq name other) (Some slot) (names other)) → AreHeld new (slots ++ slot ∷ []) later
    entered_held entry changes is_name absent told turns = record {
      filled = λ s there. filled_there s (last-among s slot slots there);
      led = λ s there. led_there s (last-among s slot slots there);
      leads = λ n s leads. by n s (bytes_eq name n) refl (sym (turns n) ∙ leads);
    }
      where
        apart : (s : ℕ) → among s slots ≡ true → s ≢ slot
        apart s there = λ same. let now = subst (λ k. among k slots ≡ true) same there in cc

        filled_there : (s : ℕ) → (among s slots ≡ true) ⊎ (s ≡ slot) → ContainsKey new s
        filled_there s (inl before) = ap is_some (changes.others s (apart s before)) ∙ held.filled s before
        filled_there s (inr last) = ap is_some (ap (get new) last ∙ changes.changed)

        led_there : (s : ℕ) → (among s slots ≡ true) ⊎ (s ≡ slot) → later (advert_of (get new s)).name ≡ Some s
        led_there s (inl before) =
            ap (λ o. later (advert_of o).name) (changes.others s (apart s before))
            ∙ turns (advert_of (get old s)).name
            ∙ tested (bytes_eq name (advert_of (get old s)).name) refl
          where
            tested : (b : Bool) → bytes_eq name (advert_of (get old s)).name ≡ b → cond b (Some slot) (names (advert_of (get old s)).name) ≡ Some s
            tested true is =
                let found = sym (held.led s before) ∙ ap names (sym ((bytes_eq-Decides name (advert_of (get old s)).name).0 is)) ∙ told in
                absurd (cc)
            tested false is = held.led s before
        led_there s (inr last) =
            ap (λ o. later (advert_of o).name) (ap (get new) last ∙ changes.changed)
            ∙ ap later is_name
            ∙ turns name
            ∙ ap (λ b. cond b (Some slot) (names name)) ((bytes_eq-Decides name name).1 refl)
            ∙ ap (λ k. Some k) (sym last)

        by : (n : List ℕ) (s : ℕ) (b : Bool) → bytes_eq name n ≡ b → cond b (Some slot) (names n) ≡ Some s
            → (among s (slots ++ slot ∷ []) ≡ true) × ((advert_of (get new s)).name ≡ n)
        by n s true is leads =
            let same = same_Some slot s leads in (
              subst (λ k. among k (slots ++ slot ∷ []) ≡ true) same (among-last slot slots),
              ap (λ k. (advert_of (get new k)).name) (sym same) ∙ ap (λ o. (advert_of o).name) changes.changed ∙ is_name ∙ (bytes_eq-Decides name n).0 is,
            )
        by n s false is leads =
            let known = held.leads n s leads in
            (among-push s slot slots known.0, ap (λ o. (advert_of o).name) (changes.others s (apart s known.0)) ∙ known.1)

  pub entered_ads : (now : Option Entry) → Updates old new slot now → among slot slots ≡ false
      → adverts new (slots ++ slot ∷ []) ≡ adverts old slots ++ advert_of now ∷ []
  entered_ads now changes absent =
      adverts-push new slots slot
      ∙ ap (λ o. adverts new slots ++ advert_of o ∷ []) changes.changed
      ∙ ap (λ ads. ads ++ advert_of now ∷ []) (others_stay old new slot now changes slots absent)

-- a slot without an entry is none of those in order
pub vacant_apart : (table : Slab Entry) (slots : List ℕ) (slot : ℕ) → ((s : ℕ) → among s slots ≡ true → ContainsKey table s) → get table slot ≡ None
    → among slot slots ≡ false
vacant_apart table slots slot filled vacant = by (among slot slots) refl
  where
    by : (b : Bool) → among slot slots ≡ b → b ≡ false
    by false is = refl
    by true is = let there = sym (ap is_some vacant) ∙ filled slot is in absurd (cc)

push-left : (slot : ℕ) (slots : List ℕ) → among slot slots ≡ false → slots_left slot (slots ++ slot ∷ []) ≡ slots
push-left slot [] absent = ap (λ b. cond b [] (slot ∷ [])) (same_number slot)
push-left slot (s ∷ slots) absent =
    let parts = neither (eqb s slot) (among slot slots) absent in
    ap (λ b. cond b (slots ++ slot ∷ []) (s ∷ slots_left slot (slots ++ slot ∷ []))) parts.0 ∙ ap (λ l. s ∷ l) (push-left slot slots parts.1)

-- a slot that came last leaves again
pub undone : (slot : ℕ) (slots : List ℕ) → among slot slots ≡ false → slots_left slot (with_last slot slots) ≡ slots
undone slot slots absent = ap (λ b. slots_left slot (cond b slots (slots ++ slot ∷ []))) absent ∙ push-left slot slots absent

pub length-gone : (slot : ℕ) (slots : List ℕ) → length (slots_left slot slots) ≤ length slots
length-gone slot [] = omega arith
length-gone slot (s ∷ slots) = by (eqb s slot) (length-gone slot slots)
  where
    by : (b : Bool) → length (slots_left slot slots) ≤ length slots → length (cond b slots (s ∷ slots_left slot slots)) ≤ length (s ∷ slots)
    by true fewer = omega arith
    by false fewer = omega (arith, fewer)
