-- One resource of a store, by its slot and by its name: whether it is offered or claimed, and the dock by which it is held.
use Rattle.std.proofs.Common.{◌≡◌, ℕ, suc, ◌+◌, All, Bool, true, false, not, ◌&&◌, ◌||◌, cond, eqb, List, [], ◌∷◌, map, position, slice_get, take, Contains}
use Rattle.std.proofs.Common.{Option, None, Some, option_map, is_none, is_some, bytes_eq, refl, sym, ◌∙◌, ap, subst}
use Rattle.std.specs.List.{find, list_all, list_any, position_or_len}
use Rattle.std.specs.Option.{option_map_or}
use Rattle.std.proofs.lemmas.List.{take-map}
use Rattle.std.proofs.lemmas.List.Elements.{All-head, All-tail}
use Rattle.std.proofs.lemmas.Option.{none-some as never_found, same_Some}
use Rattle.ad_tree.specs.Ad.{ad_frames}
use Rattle.ad_tree.specs.Frames.{Frame}
use Rattle.ad_tree.specs.declared.request.Port.{Port}
use Rattle.ad_store.specs.Holdings.{Holding}
use Rattle.ad_store.specs.Stock.{Advert, Stock, is_named}
use Rattle.ad_store.proofs.HeldLemmas.{both}
use Rattle.dock_match.specs.Pool.{AreStored, Hold, ad_in, hold_of, holder_world}
use Rattle.claim_table.specs.declared.job.Job.{Job}
use Rattle.claim_table.specs.declared.job.Stage.{Stage}
use Rattle.claim_table.specs.Holders.{holder_of, holding_in}
use Rattle.claim_table.specs.Jobs.{claim_of, claimed_by as claimer, lists, offer_of, offered_to as offeree, slots_of}
use Rattle.claim_table.specs.Priorities.{Setting, priority_of}
use Rattle.eval_scope.specs.World.{PlainWorld}
use Rattle.job_clusters.specs.Pools as pools
use Rattle.pool_books.specs.Books.{name_in, named_standing, queued}
use Rattle.pool_books.specs.Negotiation as seen
use Rattle.pool_books.specs.Ports.{ports_in}
use Rattle.pool_books.specs.Queue.{claim_names, claimed_by, is_listed, offer_names, offered_to}
use Rattle.pool_books.specs.State.{QueuedJob}
use Rattle.pool_books.specs.Stored.{are_stored, is_stored}
use Rattle.pool_books.proofs.JobLemmas.{found-any, found-first}
use Rattle.pool_books.proofs.MatchedLemmas.{IsOwned}
use Rattle.pool_books.proofs.NameLemmas.{AreBeside, Named, beside-is, listed-named, name_there, named_beside}
use Rattle.pool_books.proofs.QueueLemmas.{map-map, position-cons}
use Rattle.pool_books.proofs.SlotLemmas.{all-contained, all-take, find-at, position-at}

-- ---- what is found

some-map : {A B : Type 0} (f : A → B) (o : Option A) → is_some (option_map f o) ≡ is_some o
some-map f None = refl
some-map f (Some x) = refl

none-some : {A : Type 0} (o : Option A) → is_none o ≡ not (is_some o)
none-some None = refl
none-some (Some x) = refl

position-any : {A : Type 0} (test : A → Bool) (xs : List A) → is_some (position test xs) ≡ list_any test xs
position-any test [] = refl
position-any test (x ∷ xs) = ap is_some (position-cons test x xs) ∙ by (test x) (some-map suc (position test xs) ∙ position-any test xs)
  where
    by : (b : Bool) → is_some (option_map suc (position test xs)) ≡ list_any test xs
        → is_some (cond b (Some 0) (option_map suc (position test xs))) ≡ (b || list_any test xs)
    by true rest = refl
    by false rest = rest

-- ---- what jobs hold is in the store

claim-held : (slots : List ℕ) (standing : Stage) → list_all (lists slots) (slots_of standing) ≡ true → list_all (lists slots) (claim_of standing) ≡ true
claim-held slots Stage.Idle held = refl
claim-held slots (Stage.Matched own) held = refl
claim-held slots (Stage.Claimed own) held = held

found-held : (slots : List ℕ) (test : Job → Bool) (jobs : List Job) (job : Job) → are_stored slots jobs ≡ true → find test jobs ≡ Some job
    → is_stored slots job ≡ true
found-held slots test [] job stored found = absurd (never_found job found)
found-held slots test (x ∷ jobs) job stored found = by (test x) found (λ later. found-held slots test jobs job parts.1 later)
  where
    parts : (is_stored slots x ≡ true) × (are_stored slots jobs ≡ true)
    parts = both (is_stored slots x) (are_stored slots jobs) stored

    by : (b : Bool) → cond b (Some x) (find test jobs) ≡ Some job → (find test jobs ≡ Some job → is_stored slots job ≡ true) → is_stored slots job ≡ true
    by true is later = let same : x ≡ job = same_Some x job is in ap (is_stored slots) (sym same) ∙ parts.0
    by false is later = later is

pub holders-stored : (stock : Stock) (settings : List Setting) (jobs : List Job) → are_stored stock.slots jobs ≡ true
    → AreStored stock (holder_of settings jobs)
holders-stored stock settings jobs stored = λ slot h is.
    by slot h (find (λ job. lists (claim_of job.standing) slot) jobs) refl
    (sym (ap (option_map (holding_in settings slot)) (found-first (λ job. lists (claim_of job.standing) slot) jobs)) ∙ is)
  where
    by : (slot : ℕ) (h : Holding) (o : Option Job) → find (λ job. lists (claim_of job.standing) slot) jobs ≡ o
        → option_map (holding_in settings slot) o ≡ Some h → All (Contains stock.slots) h.slots
    by slot h None found is = absurd (never_found h is)
    by slot h (Some job) found is =
        let same : holding_in settings slot job ≡ h = same_Some (holding_in settings slot job) h is in
        subst (λ (k : Holding). All (Contains stock.slots) k.slots) same
        (all-contained stock.slots (claim_of job.standing) (claim-held stock.slots job.standing
        (found-held stock.slots (λ j. lists (claim_of j.standing) slot) jobs job stored found)))

-- ---- names and slots

or-false : (b : Bool) → (b || false) ≡ b
or-false true = refl
or-false false = refl

module _ (stock : Stock) (beside : AreBeside stock.ads stock.slots) where
  -- the frames of the ad of a slot's name are those of the slot's ad
  frames-of : (slot : ℕ) → lists stock.slots slot ≡ true → seen.frames_named stock.ads (name_in stock slot) ≡ ad_in stock slot
  frames-of slot listed =
      ap (λ name. option_map_or (λ (a : Advert). a.ad) (find (is_named name) stock.ads) []) (beside-is stock.ads stock.slots slot ∙ sym there.called)
      ∙ ap (λ o. option_map_or (λ (a : Advert). a.ad) o []) by_name
      ∙ sym (ap (λ o. option_map_or (λ (a : Advert). a.ad) o []) by_slot)
    where
      there : Named stock.ads stock.slots slot (named_beside stock.ads stock.slots slot)
      there = name_there stock.ads stock.slots slot beside.long listed

      by_name : find (is_named there.advert.name) stock.ads ≡ Some there.advert
      by_name =
          find-at there.advert.name stock.ads there.place there.advert there.at refl (λ j b at_j is. beside.names j there.place b there.advert at_j there.at is)

      by_slot : slice_get stock.ads (position_or_len (λ s. eqb s slot) stock.slots) ≡ Some there.advert
      by_slot =
          ap (slice_get stock.ads) (position-at stock.slots there.place slot there.slot_at (λ j at_j. beside.apart j there.place slot at_j there.slot_at))
          ∙ there.at

  pub frames-of-all : (slots : List ℕ) → list_all (lists stock.slots) slots ≡ true
      → map (λ s. seen.frames_named stock.ads (name_in stock s)) slots ≡ map (ad_in stock) slots
  frames-of-all [] all = refl
  frames-of-all (s ∷ slots) all =
      let parts = both (lists stock.slots s) (list_all (lists stock.slots) slots) all in
      ap (λ f. f ∷ map (λ s. seen.frames_named stock.ads (name_in stock s)) slots) (frames-of s parts.0)
      ∙ ap (λ l. ad_in stock s ∷ l) (frames-of-all slots parts.1)

  -- ---- at one place

  module _ (place : ℕ) (advert : Advert) (slot : ℕ) (at : slice_get stock.ads place ≡ Some advert) (slot_is : slice_get stock.slots place ≡ Some slot) where
    one-named : (s : ℕ) → lists stock.slots s ≡ true → bytes_eq advert.name (name_in stock s) ≡ eqb s slot
    one-named s listed =
        sym (or-false (bytes_eq advert.name (name_in stock s)))
        ∙ listed-named stock.ads stock.slots beside place advert slot at slot_is (s ∷ []) (ap (λ b. b && true) listed)
        ∙ or-false (eqb s slot)

    position-named : (slots : List ℕ) → list_all (lists stock.slots) slots ≡ true
        → position_or_len (bytes_eq advert.name) (map (name_in stock) slots) ≡ position_or_len (λ s. eqb s slot) slots
    position-named [] all = refl
    position-named (s ∷ slots) all =
        let parts = both (lists stock.slots s) (list_all (lists stock.slots) slots) all in
        ap (λ b. cond (not b) (1 + position_or_len (bytes_eq advert.name) (map (name_in stock) slots)) 0) (one-named s parts.0)
        ∙ ap (λ n. cond (not (eqb s slot)) (1 + n) 0) (position-named slots parts.1)

    offer-test : (standing : Stage) → list_all (lists stock.slots) (slots_of standing) ≡ true
        → is_listed advert.name (offer_names (named_standing stock standing)) ≡ lists (offer_of standing) slot
    offer-test Stage.Idle held = refl
    offer-test (Stage.Matched own) held = listed-named stock.ads stock.slots beside place advert slot at slot_is own held
    offer-test (Stage.Claimed own) held = refl

    claim-test : (standing : Stage) → list_all (lists stock.slots) (slots_of standing) ≡ true
        → is_listed advert.name (claim_names (named_standing stock standing)) ≡ lists (claim_of standing) slot
    claim-test Stage.Idle held = refl
    claim-test (Stage.Matched own) held = refl
    claim-test (Stage.Claimed own) held = listed-named stock.ads stock.slots beside place advert slot at slot_is own held

    found-seen : (test : Job → Bool) (passes : QueuedJob → Bool) (jobs : List Job) → are_stored stock.slots jobs ≡ true
        → ((job : Job) → is_stored stock.slots job ≡ true → passes (queued stock job) ≡ test job)
        → find passes (map (queued stock) jobs) ≡ option_map (queued stock) (find test jobs)
    found-seen test passes [] stored same = refl
    found-seen test passes (job ∷ jobs) stored same =
        ap (λ b. cond b (Some (queued stock job)) (find passes (map (queued stock) jobs))) (same job parts.0)
        ∙ by (test job) (found-seen test passes jobs parts.1 same)
      where
        parts : (is_stored stock.slots job ≡ true) × (are_stored stock.slots jobs ≡ true)
        parts = both (is_stored stock.slots job) (are_stored stock.slots jobs) stored

        by : (b : Bool) → find passes (map (queued stock) jobs) ≡ option_map (queued stock) (find test jobs)
            → cond b (Some (queued stock job)) (find passes (map (queued stock) jobs)) ≡ option_map (queued stock) (cond b (Some job) (find test jobs))
        by true rest = refl
        by false rest = rest

    -- ---- the job that holds it, in the same world

    -- the docked ads, up to it
    docked-same : (slots : List ℕ) → list_all (lists stock.slots) slots ≡ true
        → map (seen.frames_named stock.ads) (seen.up_to advert.name (map (name_in stock) slots))
        ≡ map (ad_in stock) (take (suc (position_or_len (λ s. eqb s slot) slots)) slots)
    docked-same slots all =
        let ahead = suc (position_or_len (λ s. eqb s slot) slots) in
        ap (λ k. map (seen.frames_named stock.ads) (take (suc k) (map (name_in stock) slots))) (position-named slots all)
        ∙ ap (map (seen.frames_named stock.ads)) (take-map (name_in stock) ahead slots)
        ∙ map-map (seen.frames_named stock.ads) (name_in stock) (take ahead slots)
        ∙ frames-of-all (take ahead slots) (all-take (lists stock.slots) ahead slots all)

    docked-claim : (standing : Stage) → list_all (lists stock.slots) (slots_of standing) ≡ true
        → map (seen.frames_named stock.ads) (seen.up_to advert.name (claim_names (named_standing stock standing)))
        ≡ map (ad_in stock) (take (suc (position_or_len (λ s. eqb s slot) (claim_of standing))) (claim_of standing))
    docked-claim Stage.Idle all = refl
    docked-claim (Stage.Matched own) all = refl
    docked-claim (Stage.Claimed own) all = docked-same own all

    held-same : (moment : ℕ) (settings : List Setting) (job : Job) → is_stored stock.slots job ≡ true → IsOwned job
        → seen.held_world moment stock.ads advert.name (queued stock job) ≡ holder_world moment stock (holding_in settings slot job)
    held-same moment settings job stored owned =
        ap (λ docked. world (ports_in (ad_frames job.request.ad)) docked) (docked-claim job.standing stored)
        ∙ ap (λ ports. world ports (map (ad_in stock) (take (suc (position_or_len (λ s. eqb s slot) (claim_of job.standing))) (claim_of job.standing))))
        (sym owned)
      where
        world : List Port → List (List Frame) → PlainWorld
        world ports docked = record { moment = moment; request = ad_frames job.request.ad; ports = ports; docked = docked }

    holds-same : (moment : ℕ) (settings : List Setting) (test : Job → Bool) (jobs : List Job) → are_stored stock.slots jobs ≡ true → All IsOwned jobs
        → option_map (seen.held_by moment stock.ads settings advert.name) (option_map (queued stock) (find test jobs))
        ≡ option_map (hold_of moment stock) (option_map (holding_in settings slot) (find test jobs))
    holds-same moment settings test [] stored owned = refl
    holds-same moment settings test (job ∷ jobs) stored owned = by (test job) (holds-same moment settings test jobs parts.1 (All-tail IsOwned job jobs owned))
      where
        parts : (is_stored stock.slots job ≡ true) × (are_stored stock.slots jobs ≡ true)
        parts = both (is_stored stock.slots job) (are_stored stock.slots jobs) stored

        by : (b : Bool)
            → option_map (seen.held_by moment stock.ads settings advert.name) (option_map (queued stock) (find test jobs))
            ≡ option_map (hold_of moment stock) (option_map (holding_in settings slot) (find test jobs))
            → option_map (seen.held_by moment stock.ads settings advert.name) (option_map (queued stock) (cond b (Some job) (find test jobs)))
            ≡ option_map (hold_of moment stock) (option_map (holding_in settings slot) (cond b (Some job) (find test jobs)))
        by true rest =
            ap (λ (w : PlainWorld). let hold : Hold = record { world = w; number = priority_of job.user settings } in Some hold)
            (held-same moment settings job parts.0 (All-head IsOwned job jobs owned))
        by false rest = rest

    -- ---- as both see it

    abbrev offers_it : Job → Bool
    offers_it job = lists (offer_of job.standing) slot

    abbrev claims_it : Job → Bool
    claims_it job = lists (claim_of job.standing) slot

    module _ (jobs : List Job) (stored : are_stored stock.slots jobs ≡ true) where
      pub offered-same : is_some (offered_to advert.name (map (queued stock) jobs)) ≡ is_some (offeree slot jobs)
      offered-same =
          ap is_some (found-seen offers_it (λ job. is_listed advert.name (offer_names job.standing)) jobs stored (λ job held. offer-test job.standing held))
          ∙ some-map (queued stock) (find offers_it jobs) ∙ found-any offers_it jobs ∙ sym (position-any offers_it jobs)

      pub claimed-found : claimed_by advert.name (map (queued stock) jobs) ≡ option_map (queued stock) (find claims_it jobs)
      claimed-found = found-seen claims_it (λ job. is_listed advert.name (claim_names job.standing)) jobs stored (λ job held. claim-test job.standing held)

      claimed-same : is_some (claimed_by advert.name (map (queued stock) jobs)) ≡ is_some (claimer slot jobs)
      claimed-same = ap is_some claimed-found ∙ some-map (queued stock) (find claims_it jobs) ∙ found-any claims_it jobs ∙ sym (position-any claims_it jobs)

      pub free-same : seen.is_free (map (queued stock) jobs) advert ≡ pools.is_free jobs slot
      free-same =
          ap (λ b. b && is_none (claimed_by advert.name (map (queued stock) jobs)))
          (none-some (offered_to advert.name (map (queued stock) jobs)) ∙ ap not offered-same ∙ sym (none-some (offeree slot jobs)))
          ∙ ap (λ b. is_none (offeree slot jobs) && b) (none-some (claimed_by advert.name (map (queued stock) jobs)) ∙ ap not claimed-same
          ∙ sym (none-some (claimer slot jobs)))

      pub holder-same : (moment : ℕ) (settings : List Setting) → All IsOwned jobs
          → option_map (seen.held_by moment stock.ads settings advert.name) (claimed_by advert.name (map (queued stock) jobs))
          ≡ option_map (hold_of moment stock) (holder_of settings jobs slot)
      holder-same moment settings owned =
          ap (option_map (seen.held_by moment stock.ads settings advert.name)) claimed-found
          ∙ holds-same moment settings claims_it jobs stored owned
          ∙ sym (ap (λ o. option_map (hold_of moment stock) (option_map (holding_in settings slot) o)) (found-first claims_it jobs))
