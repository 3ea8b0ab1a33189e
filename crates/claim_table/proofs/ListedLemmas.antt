-- Jobs in their slots, and the names that lead to them.
use Rattle.std.proofs.Common.{◌≡◌, ◌≢◌, ℕ, zero, suc, ◌<◌, ◌⊎◌, inl, inr, Bool, true, false, cond, eqb, List, [], ◌∷◌, ◌++◌}
use Rattle.std.proofs.Common.{length, get_or, slice_get, slice_set, position, Option, None, Some, is_some, IfNone, IfSome, bytes_eq, refl, sym, ◌∙◌, ap}
use Rattle.std.proofs.Common.{subst, arith}
use Rattle.std.specs.Prelude.{option_map}
use Rattle.std.specs.List.{remove}
use Rattle.std.specs.Prelude.{slice_index_or}
use Rattle.std.specs.Option.{option_and_then, option_map_or, unwrap_or}
use Rattle.std.proofs.lemmas.Option.{none-some, same_Some, slice_get-get_or, slice_get_within}
use Rattle.std.proofs.lemmas.Slice.Eq.{bytes_eq-Decides}
use Rattle.slab.specs.Slab.{ContainsKey, Slab, Updates, get}
use Rattle.slot_order.specs.Slots.{are_apart, without as slots_left}
use Rattle.ad_store.proofs.HeldLemmas.{among, among-at, among-cases, among-here, among-later, apart-first, apart-rest, different, neither, number_of}
use Rattle.ad_store.proofs.HeldLemmas.{same_number}
use Rattle.ad_store.proofs.ChangeLemmas.{left-among}
use Rattle.ad_store.proofs.SlotLemmas.{one_slot}
use Rattle.claim_table.specs.declared.job.Job.{Job}
use Rattle.claim_table.specs.Jobs.{AreNamedApart, is_named, numbered}
use Rattle.claim_table.specs.Kept.{passes_at}
use Rattle.claim_table.specs.Listed.{AreListed, jobs_at, name_in, onto}
use Rattle.claim_table.proofs.NoteLemmas.{first_at, noted-position, position-first}

job_from : (o : Option Job) → is_some o ≡ true → (job : Job) × (o ≡ Some job)
job_from None is = absurd (cc)
job_from (Some job) is = (job, refl)

-- a slot's place in the order
pub place-some : (slots : List ℕ) (i key : ℕ) → are_apart slots ≡ true → slice_get slots i ≡ Some key
    → position (λ s. eqb s key) slots ≡ Some i
unfolding first_at
place-some slots i key apart at = position-first (λ s. eqb s key) slots ∙ first slots i apart at
  where
    first : (slots : List ℕ) (i : ℕ) → are_apart slots ≡ true → slice_get slots i ≡ Some key → first_at (λ s. eqb s key) slots ≡ Some i
    first [] i apart at = absurd (none-some key at)
    first (s ∷ slots) zero apart at =
        ap (λ b. cond b (Some 0) (option_map suc (first_at (λ t. eqb t key) slots))) (ap (λ k. eqb k key) (same_Some s key at) ∙ same_number key)
    first (s ∷ slots) (suc i) apart at = by (eqb s key) refl (first slots i (apart-rest s slots apart) at)
      where
        by : (b : Bool) → eqb s key ≡ b → first_at (λ t. eqb t key) slots ≡ Some i
            → cond b (Some 0) (option_map suc (first_at (λ t. eqb t key) slots)) ≡ Some (suc i)
        by true is rest =
            let there = subst (λ k. among k slots ≡ true) (sym (number_of s key is)) (among-at slots i key at) in
            let none = apart-first s slots apart in
            absurd (cc)
        by false is rest = ap (option_map suc) rest

pub place-none : (slots : List ℕ) (key : ℕ) → among key slots ≡ false → position (λ s. eqb s key) slots ≡ None
unfolding first_at
place-none slots key absent = position-first (λ s. eqb s key) slots ∙ first slots absent
  where
    first : (slots : List ℕ) → among key slots ≡ false → first_at (λ s. eqb s key) slots ≡ None
    first [] absent = refl
    first (s ∷ slots) absent =
        let parts = neither (eqb s key) (among key slots) absent in
        ap (λ b. cond b (Some 0) (option_map suc (first_at (λ t. eqb t key) slots))) parts.0 ∙ ap (option_map suc) (first slots parts.1)

-- ---- jobs by number and by slot

module _ (table : Slab Job) where
  -- what is true of all slots is true of those behind the first
  abbrev Filled : List ℕ → Type 0
  Filled slots = (s : ℕ) → among s slots ≡ true → ContainsKey table s

  filled-first : (s : ℕ) (slots : List ℕ) → Filled (s ∷ slots) → (job : Job) × (get table s ≡ Some job)
  filled-first s slots filled = job_from (get table s) (filled s (among-here s slots))

  filled-rest : (s : ℕ) (slots : List ℕ) → Filled (s ∷ slots) → Filled slots
  filled-rest s slots filled = λ t there. filled t (among-later s t slots there)

  pub get-job : (slots : List ℕ) → ((s : ℕ) → among s slots ≡ true → ContainsKey table s) → (i : ℕ)
      → slice_get (jobs_at table slots) i ≡ option_and_then (get table) (slice_get slots i)
  get-job [] filled i = refl
  get-job (s ∷ slots) filled zero =
      let first = filled-first s slots filled in
      ap (λ o. slice_get (onto o (jobs_at table slots)) 0) first.1 ∙ sym first.1
  get-job (s ∷ slots) filled (suc i) =
      let first = filled-first s slots filled in
      ap (λ o. slice_get (onto o (jobs_at table slots)) (suc i)) first.1 ∙ get-job slots (filled-rest s slots filled) i

  pub length-jobs : (slots : List ℕ) → ((s : ℕ) → among s slots ≡ true → ContainsKey table s) → length (jobs_at table slots) ≡ length slots
  length-jobs [] filled = refl
  length-jobs (s ∷ slots) filled =
      let first = filled-first s slots filled in
      ap (λ o. length (onto o (jobs_at table slots))) first.1 ∙ ap suc (length-jobs slots (filled-rest s slots filled))

-- ---- one slot changes

module _ (old new : Slab Job) (key : ℕ) (now : Option Job) (changes : Updates old new key now) where
  pub others_stay : (slots : List ℕ) → among key slots ≡ false → jobs_at new slots ≡ jobs_at old slots
  others_stay [] out = refl
  others_stay (s ∷ slots) out =
      let parts = neither (eqb s key) (among key slots) out in
      ap (λ o. onto o (jobs_at new slots)) (changes.others s (different s key parts.0)) ∙ ap (onto (get old s)) (others_stay slots parts.1)

  -- the slots behind the first haven't the key, where the first has it
  rest_stays : (s : ℕ) (slots : List ℕ) → are_apart (s ∷ slots) ≡ true → s ≡ key → jobs_at new slots ≡ jobs_at old slots
  rest_stays s slots apart same = others_stay slots (subst (λ k. among k slots ≡ false) same (apart-first s slots apart))

  -- the first hasn't the key, where one behind it has
  first_other : (s : ℕ) (slots : List ℕ) (i : ℕ) → are_apart (s ∷ slots) ≡ true → slice_get slots i ≡ Some key → s ≢ key
  first_other s slots i apart at = λ same.
      let there = subst (λ k. among k slots ≡ true) (sym same) (among-at slots i key at) in
      let none = apart-first s slots apart in
      cc

  pub jobs-set : (job : Job) → now ≡ Some job → (slots : List ℕ) (i : ℕ) → ((s : ℕ) → among s slots ≡ true → ContainsKey old s)
      → are_apart slots ≡ true → slice_get slots i ≡ Some key
      → jobs_at new slots ≡ slice_set (jobs_at old slots) i job
  jobs-set job is [] i filled apart at = absurd (none-some key at)
  jobs-set job is (s ∷ slots) zero filled apart at =
      let first = filled-first old s slots filled in
      let same = same_Some s key at in
      ap (λ o. onto o (jobs_at new slots)) (ap (get new) same ∙ changes.changed ∙ is)
      ∙ ap (λ l. job ∷ l) (rest_stays s slots apart same)
      ∙ sym (ap (λ o. slice_set (onto o (jobs_at old slots)) 0 job) first.1)
  jobs-set job is (s ∷ slots) (suc i) filled apart at =
      let first = filled-first old s slots filled in
      ap (λ o. onto o (jobs_at new slots)) (changes.others s (first_other s slots i apart at) ∙ first.1)
      ∙ ap (λ l. first.0 ∷ l) (jobs-set job is slots i (filled-rest old s slots filled) (apart-rest s slots apart) at)
      ∙ sym (ap (λ o. slice_set (onto o (jobs_at old slots)) (suc i) job) first.1)

  pub jobs-remove : (slots : List ℕ) (i : ℕ) → ((s : ℕ) → among s slots ≡ true → ContainsKey old s) → are_apart slots ≡ true
      → slice_get slots i ≡ Some key → jobs_at new (slots_left key slots) ≡ remove (jobs_at old slots) i
  jobs-remove [] i filled apart at = absurd (none-some key at)
  jobs-remove (s ∷ slots) zero filled apart at =
      let first = filled-first old s slots filled in
      let same = same_Some s key at in
      ap (λ b. jobs_at new (cond b slots (s ∷ slots_left key slots))) (ap (λ k. eqb k key) same ∙ same_number key)
      ∙ rest_stays s slots apart same
      ∙ sym (ap (λ o. remove (onto o (jobs_at old slots)) 0) first.1)
  jobs-remove (s ∷ slots) (suc i) filled apart at =
      let first = filled-first old s slots filled in
      let other = first_other s slots i apart at in
      ap (λ b. jobs_at new (cond b slots (s ∷ slots_left key slots))) (differs s key other)
      ∙ ap (λ o. onto o (jobs_at new (slots_left key slots))) (changes.others s other ∙ first.1)
      ∙ ap (λ l. first.0 ∷ l) (jobs-remove slots i (filled-rest old s slots filled) (apart-rest s slots apart) at)
      ∙ sym (ap (λ o. remove (onto o (jobs_at old slots)) (suc i)) first.1)
    where
      differs : (a b : ℕ) → a ≢ b → eqb a b ≡ false
      differs a b other = by (eqb a b) refl
        where
          by : (t : Bool) → eqb a b ≡ t → t ≡ false
          by false is = refl
          by true is = absurd (other (number_of a b is))

  pub jobs-push : (job : Job) → now ≡ Some job → (slots : List ℕ) → among key slots ≡ false
      → jobs_at new (slots ++ key ∷ []) ≡ jobs_at old slots ++ job ∷ []
  jobs-push job is [] out = ap (λ o. onto o []) (changes.changed ∙ is)
  jobs-push job is (s ∷ slots) out =
      let parts = neither (eqb s key) (among key slots) out in
      ap (λ o. onto o (jobs_at new (slots ++ key ∷ []))) (changes.others s (different s key parts.0))
      ∙ ap (onto (get old s)) (jobs-push job is slots parts.1)
      ∙ pushed (get old s) (jobs_at old slots)
    where
      pushed : (o : Option Job) (jobs : List Job) → onto o (jobs ++ job ∷ []) ≡ onto o jobs ++ job ∷ []
      pushed None jobs = refl
      pushed (Some first) jobs = refl

-- the slots without one are those without its place
pub slots-remove : (slots : List ℕ) (i key : ℕ) → are_apart slots ≡ true → slice_get slots i ≡ Some key → slots_left key slots ≡ remove slots i
slots-remove [] i key apart at = absurd (none-some key at)
slots-remove (s ∷ slots) zero key apart at =
    ap (λ b. cond b slots (s ∷ slots_left key slots)) (ap (λ k. eqb k key) (same_Some s key at) ∙ same_number key)
slots-remove (s ∷ slots) (suc i) key apart at = by (eqb s key) refl (slots-remove slots i key (apart-rest s slots apart) at)
  where
    by : (b : Bool) → eqb s key ≡ b → slots_left key slots ≡ remove slots i → cond b slots (s ∷ slots_left key slots) ≡ s ∷ remove slots i
    by true is rest =
        let there = subst (λ k. among k slots ≡ true) (sym (number_of s key is)) (among-at slots i key at) in
        let none = apart-first s slots apart in
        absurd (cc)
    by false is rest = ap (λ l. s ∷ l) rest

-- ---- names

module _ (table : Slab Job) (slots : List ℕ) (names : List ℕ → Option ℕ) (listed : AreListed table slots names) (apart : are_apart slots ≡ true) where
  -- whether a job has a name, by what the name leads to
  passes-led : (name : List ℕ) (k : ℕ)
      → passes_at (is_named name) (jobs_at table slots) k ≡ option_map_or (λ s. bytes_eq name (name_in table s)) (slice_get slots k) false
  passes-led name k = ap (λ o. option_map_or (is_named name) o false) (get-job table slots listed.filled k) ∙ by (slice_get slots k) refl
    where
      by : (o : Option ℕ) → slice_get slots k ≡ o
          → option_map_or (is_named name) (option_and_then (get table) o) false ≡ option_map_or (λ s. bytes_eq name (name_in table s)) o false
      by None at = refl
      by (Some s) at =
          let job = job_from (get table s) (listed.filled s (among-at slots k s at)) in
          ap (λ o. option_map_or (is_named name) o false) job.1 ∙ sym (ap (λ o. bytes_eq name (option_map_or (λ j. j.name) o [])) job.1)

  pub numbered-some : (name : List ℕ) (key i : ℕ) → names name ≡ Some key → slice_get slots i ≡ Some key
      → numbered name (jobs_at table slots) ≡ Some i
  numbered-some name key i told at =
      sym (noted-position (is_named name) (jobs_at table slots) (Some i) (λ k. by k (slice_get slots k) refl ∙ sym (passes-led name k)))
    where
      by : (k : ℕ) (o : Option ℕ) → slice_get slots k ≡ o → eqb i k ≡ option_map_or (λ s. bytes_eq name (name_in table s)) o false
      by k None there = tested (eqb i k) refl
        where
          tested : (b : Bool) → eqb i k ≡ b → b ≡ false
          tested false is = refl
          tested true is =
              let same = ap (slice_get slots) (number_of i k is) in
              absurd (none-some key (sym there ∙ sym same ∙ at))
      by k (Some s) there = tested (eqb i k) refl (bytes_eq name (name_in table s)) refl
        where
          tested : (a : Bool) → eqb i k ≡ a → (b : Bool) → bytes_eq name (name_in table s) ≡ b → a ≡ b
          tested true is true named = refl
          tested false is false named = refl
          tested true is false named =
              let same : key ≡ s = same_Some key s (sym at ∙ ap (slice_get slots) (number_of i k is) ∙ there) in
              let passes = (bytes_eq-Decides name (name_in table s)).1 (sym (listed.leads name key told).1 ∙ ap (name_in table) same) in
              absurd (cc)
          tested false is true named =
              let led = ap names ((bytes_eq-Decides name (name_in table s)).0 named) ∙ listed.led s (among-at slots k s there) in
              let same : key ≡ s = same_Some key s (sym told ∙ led) in
              let places : i ≡ k = one_slot slots apart i k s (at ∙ ap (λ t. Some t) same) there in
              absurd (different i k is places)

  pub numbered-none : (name : List ℕ) → names name ≡ None → numbered name (jobs_at table slots) ≡ None
  numbered-none name told = sym (noted-position (is_named name) (jobs_at table slots) None (λ k. by k (slice_get slots k) refl ∙ sym (passes-led name k)))
    where
      by : (k : ℕ) (o : Option ℕ) → slice_get slots k ≡ o → false ≡ option_map_or (λ s. bytes_eq name (name_in table s)) o false
      by k None there = refl
      by k (Some s) there = tested (bytes_eq name (name_in table s)) refl
        where
          tested : (b : Bool) → bytes_eq name (name_in table s) ≡ b → false ≡ b
          tested false named = refl
          tested true named =
              let led = ap names ((bytes_eq-Decides name (name_in table s)).0 named) ∙ listed.led s (among-at slots k s there) in
              absurd (none-some s (sym told ∙ led))

  pub named-apart : AreNamedApart (jobs_at table slots)
  named-apart i job at = by (slice_get slots i) refl
    where
      by : (o : Option ℕ) → slice_get slots i ≡ o → numbered job.name (jobs_at table slots) ≡ Some i
      by None there = absurd (none-some job (sym (get-job table slots listed.filled i ∙ ap (option_and_then (get table)) there) ∙ at))
      by (Some s) there =
          let lies : get table s ≡ Some job = sym (get-job table slots listed.filled i ∙ ap (option_and_then (get table)) there) ∙ at in
          let named : name_in table s ≡ job.name = ap (λ o. option_map_or (λ j. j.name) o []) lies in
          numbered-some job.name s i (ap names (sym named) ∙ listed.led s (among-at slots i s there)) there

-- ---- slots that come and leave

stays-among : (s slot : ℕ) (slots : List ℕ) → s ≢ slot → among s slots ≡ true → among s (slots_left slot slots) ≡ true
stays-among s slot [] other is = absurd (cc)
stays-among s slot (t ∷ slots) other is = by (eqb t slot) refl (λ rest. stays-among s slot slots other rest)
  where
    by : (b : Bool) → eqb t slot ≡ b → (among s slots ≡ true → among s (slots_left slot slots) ≡ true)
        → among s (cond b slots (t ∷ slots_left slot slots)) ≡ true
    by true tells later = here (among-cases t s slots is)
      where
        here : (t ≡ s) ⊎ (among s slots ≡ true) → among s slots ≡ true
        here (inl same) = absurd (other (sym same ∙ number_of t slot tells))
        here (inr rest) = rest
    by false tells later = here (among-cases t s slots is)
      where
        here : (t ≡ s) ⊎ (among s slots ≡ true) → among s (t ∷ slots_left slot slots) ≡ true
        here (inl same) = subst (λ k. among k (t ∷ slots_left slot slots) ≡ true) same (among-here t (slots_left slot slots))
        here (inr rest) = among-later t s (slots_left slot slots) (later rest)

last-among : (s slot : ℕ) (slots : List ℕ) → among s (slots ++ slot ∷ []) ≡ true → (among s slots ≡ true) ⊎ (s ≡ slot)
last-among s slot [] is = here (among-cases slot s [] is)
  where
    here : (slot ≡ s) ⊎ (among s [] ≡ true) → (among s [] ≡ true) ⊎ (s ≡ slot)
    here (inl same) = inr (sym same)
    here (inr none) = inl none
last-among s slot (t ∷ slots) is = here (among-cases t s (slots ++ slot ∷ []) is) (λ rest. last-among s slot slots rest)
  where
    here : (t ≡ s) ⊎ (among s (slots ++ slot ∷ []) ≡ true) → (among s (slots ++ slot ∷ []) ≡ true → (among s slots ≡ true) ⊎ (s ≡ slot))
        → (among s (t ∷ slots) ≡ true) ⊎ (s ≡ slot)
    here (inl same) later = inl (subst (λ k. among k (t ∷ slots) ≡ true) same (among-here t slots))
    here (inr rest) later = again (later rest)
      where
        again : (among s slots ≡ true) ⊎ (s ≡ slot) → (among s (t ∷ slots) ≡ true) ⊎ (s ≡ slot)
        again (inl before) = inl (among-later t s slots before)
        again (inr last) = inr last

among-push : (s slot : ℕ) (slots : List ℕ) → among s slots ≡ true → among s (slots ++ slot ∷ []) ≡ true
among-push s slot [] is = absurd (cc)
among-push s slot (t ∷ slots) is = here (among-cases t s slots is) (λ rest. among-push s slot slots rest)
  where
    here : (t ≡ s) ⊎ (among s slots ≡ true) → (among s slots ≡ true → among s (slots ++ slot ∷ []) ≡ true)
        → among s (t ∷ slots ++ slot ∷ []) ≡ true
    here (inl same) later = subst (λ k. among k (t ∷ slots ++ slot ∷ []) ≡ true) same (among-here t (slots ++ slot ∷ []))
    here (inr rest) later = among-later t s (slots ++ slot ∷ []) (later rest)

among-last : (slot : ℕ) (slots : List ℕ) → among slot (slots ++ slot ∷ []) ≡ true
among-last slot [] = among-here slot []
among-last slot (t ∷ slots) = among-later t slot (slots ++ slot ∷ []) (among-last slot slots)

-- ---- what stays true

module _ (old new : Slab Job) (slots : List ℕ) (names : List ℕ → Option ℕ) (slot : ℕ) (listed : AreListed old slots names) where
  module _ (job : Job) (changes : Updates old new slot (Some job)) (is_name : job.name ≡ (name_in old slot)) where
    name_stays : (s : ℕ) → (name_in new s) ≡ (name_in old s)
    name_stays s = by (eqb s slot) refl
      where
        by : (b : Bool) → eqb s slot ≡ b → (name_in new s) ≡ (name_in old s)
        by true is =
            let same = number_of s slot is in
            ap (λ k. (name_in new k)) same ∙ ap (λ o. (option_map_or (λ j. j.name) o [])) changes.changed ∙ is_name
            ∙ ap (λ k. (name_in old k)) (sym same)
        by false is = ap (λ o. (option_map_or (λ j. j.name) o [])) (changes.others s (different s slot is))

    pub replaced_listed : AreListed new slots names
    replaced_listed = record {
      filled = λ s there. by s there (eqb s slot) refl;
      led = λ s there. ap names (name_stays s) ∙ listed.led s there;
      leads = λ name s told. ((listed.leads name s told).0, name_stays s ∙ (listed.leads name s told).1);
    }
      where
        by : (s : ℕ) → among s slots ≡ true → (b : Bool) → eqb s slot ≡ b → ContainsKey new s
        by s there true is = ap is_some (ap (get new) (number_of s slot is) ∙ changes.changed)
        by s there false is = ap is_some (changes.others s (different s slot is)) ∙ listed.filled s there

  module _ (later : List ℕ → Option ℕ) (name : List ℕ) where
    pub gone_listed : Updates old new slot None → are_apart slots ≡ true → names name ≡ Some slot
        → ((other : List ℕ) → later other ≡ cond (bytes_eq name other) None (names other))
        → AreListed new (slots_left slot slots) later
    gone_listed changes apart told turns = record {
      filled = λ s there. let known = left-among s slot slots apart there in ap is_some (changes.others s known.0) ∙ listed.filled s known.1;
      led = λ s there.
          let known = left-among s slot slots apart there in
          ap (λ o. later (option_map_or (λ j. j.name) o [])) (changes.others s known.0) ∙ turns (name_in old s) ∙ led_there s known.0 known.1;
      leads = λ n s leads. by n s (bytes_eq name n) refl (sym (turns n) ∙ leads);
    }
      where
        led_there : (s : ℕ) → s ≢ slot → among s slots ≡ true → cond (bytes_eq name (name_in old s)) None (names (name_in old s)) ≡ Some s
        led_there s other there =
            tested (bytes_eq name (name_in old s)) refl
          where
            tested : (b : Bool) → bytes_eq name (name_in old s) ≡ b → cond b None (names (name_in old s)) ≡ Some s
            tested false is = listed.led s there
            tested true is = absurd (other (same_Some s slot (sym (ap names ((bytes_eq-Decides name (name_in old s)).0 is) ∙ listed.led s there) ∙ told)))

        by : (n : List ℕ) (s : ℕ) (b : Bool) → bytes_eq name n ≡ b → cond b None (names n) ≡ Some s
            → (among s (slots_left slot slots) ≡ true) × ((name_in new s) ≡ n)
        by n s true is leads = absurd (cc)
        by n s false is leads =
            let known = listed.leads n s leads in
            (stays-among s slot slots (other known.1) known.0, ap (λ o. (option_map_or (λ j. j.name) o [])) (changes.others s (other known.1)) ∙ known.1)
          where
            other : (name_in old s) ≡ n → s ≢ slot
            other named = λ same.
                let equal : name ≡ n = sym (listed.leads name slot told).1 ∙ ap (λ k. (name_in old k)) (sym same) ∙ named in
                let tested = (bytes_eq-Decides name n).1 equal in
                cc

    pub entered_listed : (job : Job) → Updates old new slot (Some job) → job.name ≡ name → among slot slots ≡ false → names name ≡ None
        → ((other : List ℕ) → later other ≡ cond (bytes_eq name other) (Some slot) (names other)) → AreListed new (slots ++ slot ∷ []) later
    entered_listed job changes is_name absent told turns = record {
      filled = λ s there. filled_there s (last-among s slot slots there);
      led = λ s there. led_there s (last-among s slot slots there);
      leads = λ n s leads. by n s (bytes_eq name n) refl (sym (turns n) ∙ leads);
    }
      where
        apart : (s : ℕ) → among s slots ≡ true → s ≢ slot
        apart s there = λ same. let now = subst (λ k. among k slots ≡ true) same there in cc

        filled_there : (s : ℕ) → (among s slots ≡ true) ⊎ (s ≡ slot) → ContainsKey new s
        filled_there s (inl before) = ap is_some (changes.others s (apart s before)) ∙ listed.filled s before
        filled_there s (inr last) = ap is_some (ap (get new) last ∙ changes.changed)

        led_there : (s : ℕ) → (among s slots ≡ true) ⊎ (s ≡ slot) → later (name_in new s) ≡ Some s
        led_there s (inl before) =
            ap (λ o. later (option_map_or (λ j. j.name) o [])) (changes.others s (apart s before))
            ∙ turns (name_in old s)
            ∙ tested (bytes_eq name (name_in old s)) refl
          where
            tested : (b : Bool) → bytes_eq name (name_in old s) ≡ b → cond b (Some slot) (names (name_in old s)) ≡ Some s
            tested true is =
                let found = sym (listed.led s before) ∙ ap names (sym ((bytes_eq-Decides name (name_in old s)).0 is)) ∙ told in
                absurd (cc)
            tested false is = listed.led s before
        led_there s (inr last) =
            ap (λ o. later (option_map_or (λ j. j.name) o [])) (ap (get new) last ∙ changes.changed)
            ∙ ap later is_name
            ∙ turns name
            ∙ ap (λ b. cond b (Some slot) (names name)) ((bytes_eq-Decides name name).1 refl)
            ∙ ap (λ k. Some k) (sym last)

        by : (n : List ℕ) (s : ℕ) (b : Bool) → bytes_eq name n ≡ b → cond b (Some slot) (names n) ≡ Some s
            → (among s (slots ++ slot ∷ []) ≡ true) × ((name_in new s) ≡ n)
        by n s true is leads =
            let same = same_Some slot s leads in (
              subst (λ k. among k (slots ++ slot ∷ []) ≡ true) same (among-last slot slots),
              ap (λ k. (name_in new k)) (sym same) ∙ ap (λ o. (option_map_or (λ j. j.name) o [])) changes.changed ∙ is_name
                  ∙ (bytes_eq-Decides name n).0 is,
            )
        by n s false is leads =
            let known = listed.leads n s leads in
            (among-push s slot slots known.0, ap (λ o. (option_map_or (λ j. j.name) o [])) (changes.others s (apart s known.0)) ∙ known.1)

-- a slot without a job is none of those in order
pub vacant_apart : (table : Slab Job) (slots : List ℕ) (slot : ℕ) → ((s : ℕ) → among s slots ≡ true → ContainsKey table s)
    → get table slot ≡ None → among slot slots ≡ false
vacant_apart table slots slot filled vacant = by (among slot slots) refl
  where
    by : (b : Bool) → among slot slots ≡ b → b ≡ false
    by false is = refl
    by true is = let there = sym (ap is_some vacant) ∙ filled slot is in absurd (cc)

-- ---- room for a job, which changes nothing in the slots

module _ (old mid : Slab Job) (same : mid.slots ≡ old.slots) where
  same-get : (s : ℕ) → get mid s ≡ get old s
  same-get s = ap (λ l. slice_index_or l s None) same

  pub same-updates : (new : Slab Job) (key : ℕ) (now : Option Job) → Updates mid new key now → Updates old new key now
  same-updates new key now changes = record { changed = changes.changed; others = λ s other. changes.others s other ∙ same-get s }

-- ---- by number

module _ (table : Slab Job) (slots : List ℕ) (i : ℕ) (filled : (s : ℕ) → among s slots ≡ true → ContainsKey table s) where
  pub there-at : (key : ℕ) → slice_get slots i ≡ Some key → ContainsKey table key
  there-at key at = filled key (among-at slots i key at)

  pub job-at : (key : ℕ) (job : Job) → slice_get slots i ≡ Some key → get table key ≡ Some job → slice_get (jobs_at table slots) i ≡ Some job
  job-at key job at lies = get-job table slots filled i ∙ ap (option_and_then (get table)) at ∙ lies

  pub within-order : (found : Option ℕ) → i < length (jobs_at table slots) → found ≡ slice_get slots i
      → slice_get slots i ≡ Some (unwrap_or found 0)
  within-order (Some key) within told = sym told
  within-order None within told =
      absurd (none-some (get_or slots i 0) (told ∙ slice_get-get_or slots i 0 (omega (arith, within, length-jobs table slots filled))))

-- ---- places

at-among : (slots : List ℕ) (key : ℕ) → among key slots ≡ true → (i : ℕ) × (slice_get slots i ≡ Some key)
at-among [] key there = absurd (cc)
at-among (s ∷ slots) key there = by (among-cases s key slots there) (λ rest. at-among slots key rest)
  where
    by : (s ≡ key) ⊎ (among key slots ≡ true) → (among key slots ≡ true → (i : ℕ) × (slice_get slots i ≡ Some key))
        → (i : ℕ) × (slice_get (s ∷ slots) i ≡ Some key)
    by (inl here) later = (0, ap (λ k. Some k) here)
    by (inr rest) later = let found = later rest in (suc found.0, found.1)

pub place-of : (slots : List ℕ) (key : ℕ) (found : Option ℕ) → are_apart slots ≡ true → IfSome found (λ i. slice_get slots i ≡ Some key)
    → IfNone found (among key slots ≡ false) → found ≡ position (λ s. eqb s key) slots
place-of slots key None apart at none = sym (place-none slots key none)
place-of slots key (Some i) apart at none = sym (place-some slots i key apart at)

module _ (table : Slab Job) (slots : List ℕ) (names : List ℕ → Option ℕ) (listed : AreListed table slots names) (apart : are_apart slots ≡ true) where
  pub numbered-place : (name : List ℕ) (key : ℕ) (found : Option ℕ) → names name ≡ Some key → IfSome found (λ i. slice_get slots i ≡ Some key)
      → IfNone found (among key slots ≡ false) → found ≡ numbered name (jobs_at table slots)
  numbered-place name key None told at none = let there = (listed.leads name key told).0 in absurd (cc)
  numbered-place name key (Some i) told at none = sym (numbered-some table slots names listed apart name key i told at)

  pub place-within : (key : ℕ) (found : Option ℕ) → IfSome found (λ i. slice_get slots i ≡ Some key)
      → IfSome found (λ i. i < length (jobs_at table slots))
  place-within key None at = tt
  place-within key (Some i) at = omega (arith, slice_get_within slots i key at, length-jobs table slots listed.filled)

  -- a name that no job has leads nowhere
  pub unnumbered : (name : List ℕ) → numbered name (jobs_at table slots) ≡ None → names name ≡ None
  unnumbered name none = by (names name) refl
    where
      by : (o : Option ℕ) → names name ≡ o → o ≡ None
      by None told = refl
      by (Some key) told =
          let there = at-among slots key (listed.leads name key told).0 in
          absurd (none-some there.0 (sym none ∙ numbered-some table slots names listed apart name key there.0 told there.1))
