-- The jobs of a state behind the changes of a table.
use Rattle.std.proofs.Common.{◌≡◌, ℕ, Bool, true, false, cond, List, [], ◌∷◌, find, map, slice_get, Some, option_map, refl, sym, ◌∙◌, ap}
use Rattle.std.specs.List.{list_all}
use Rattle.std.specs.Option.{option_and_then}
use Rattle.ad_store.specs.Stock.{Advert, Stock}
use Rattle.ad_store.proofs.HeldLemmas.{both}
use Rattle.claim_table.specs.declared.job.Job.{Job}
use Rattle.claim_table.specs.declared.job.Stage.{Stage}
use Rattle.claim_table.specs.Jobs.{claim_of, claimed_by as claimer, lists, offer_of, offered_to as offeree, slots_of}
use Rattle.pool_books.specs.Books.{name_in, named_standing, queued}
use Rattle.pool_books.specs.Queue.{claim_names, claimed_by, is_listed, offer_names, offered_to}
use Rattle.pool_books.specs.State.{QueuedJob}
use Rattle.pool_books.specs.Stored.{are_stored, is_stored}
use Rattle.pool_books.proofs.JobLemmas.{found-first}
use Rattle.pool_books.proofs.NameLemmas.{AreBeside, listed-named}

-- ---- whose a resource is

-- the name of the first job that passes, among the jobs seen by names
pub name-found : (slots : List ℕ) (stock : Stock) (test : Job → Bool) (seen : QueuedJob → Bool) (jobs : List Job) → are_stored slots jobs ≡ true
    → ((job : Job) → is_stored slots job ≡ true → seen (queued stock job) ≡ test job)
    → option_map (λ job. job.name) (find test jobs) ≡ option_map (λ job. job.name) (find seen (map (queued stock) jobs))
name-found slots stock test seen [] stored same = refl
name-found slots stock test seen (job ∷ jobs) stored same =
    by (test job) (name-found slots stock test seen jobs parts.1 same)
    ∙ sym (ap (λ b. option_map (λ (j : QueuedJob). j.name) (cond b (Some (queued stock job)) (find seen (map (queued stock) jobs)))) (same job parts.0))
  where
    parts : (is_stored slots job ≡ true) × (are_stored slots jobs ≡ true)
    parts = both (is_stored slots job) (are_stored slots jobs) stored

    by : (b : Bool) → option_map (λ j. j.name) (find test jobs) ≡ option_map (λ j. j.name) (find seen (map (queued stock) jobs))
        → option_map (λ (j : Job). j.name) (cond b (Some job) (find test jobs))
        ≡ option_map (λ (j : QueuedJob). j.name) (cond b (Some (queued stock job)) (find seen (map (queued stock) jobs)))
    by true rest = refl
    by false rest = rest

module _ (stock : Stock) (beside : AreBeside stock.ads stock.slots) (place : ℕ) (advert : Advert) (slot : ℕ) (at : slice_get stock.ads place ≡ Some advert)
    (slot_at : slice_get stock.slots place ≡ Some slot) (jobs : List Job) (stored : are_stored stock.slots jobs ≡ true) where
  listed_in : (own : List ℕ) → list_all (lists stock.slots) own ≡ true → is_listed advert.name (map (name_in stock) own) ≡ lists own slot
  listed_in own held = listed-named stock.ads stock.slots beside place advert slot at slot_at own held

  pub offer_seen : (standing : Stage) → list_all (lists stock.slots) (slots_of standing) ≡ true
      → is_listed advert.name (offer_names (named_standing stock standing)) ≡ lists (offer_of standing) slot
  offer_seen Stage.Idle held = refl
  offer_seen (Stage.Matched own) held = listed_in own held
  offer_seen (Stage.Claimed own) held = refl

  pub claim_seen : (standing : Stage) → list_all (lists stock.slots) (slots_of standing) ≡ true
      → is_listed advert.name (claim_names (named_standing stock standing)) ≡ lists (claim_of standing) slot
  claim_seen Stage.Idle held = refl
  claim_seen (Stage.Matched own) held = refl
  claim_seen (Stage.Claimed own) held = listed_in own held

  pub offered-seen : option_map (λ job. job.name) (option_and_then (λ i. slice_get jobs i) (offeree slot jobs))
      ≡ option_map (λ job. job.name) (offered_to advert.name (map (queued stock) jobs))
  offered-seen =
      ap (option_map (λ (j : Job). j.name)) (found-first (λ job. lists (offer_of job.standing) slot) jobs)
      ∙ name-found stock.slots stock (λ job. lists (offer_of job.standing) slot) (λ job. is_listed advert.name (offer_names job.standing)) jobs stored
      (λ job held. offer_seen job.standing held)

  pub claimed-seen : option_map (λ job. job.name) (option_and_then (λ i. slice_get jobs i) (claimer slot jobs))
      ≡ option_map (λ job. job.name) (claimed_by advert.name (map (queued stock) jobs))
  claimed-seen =
      ap (option_map (λ (j : Job). j.name)) (found-first (λ job. lists (claim_of job.standing) slot) jobs)
      ∙ name-found stock.slots stock (λ job. lists (claim_of job.standing) slot) (λ job. is_listed advert.name (claim_names job.standing)) jobs stored
      (λ job held. claim_seen job.standing held)
