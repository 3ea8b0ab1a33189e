-- The first resource of an offer that doesn't pass, by slots and by names, and what a claim may count.
use Rattle.std.proofs.Common.{◌≡◌, ℕ, zero, suc, ◌+◌, ◌<◌, ◌≤◌, All, Bool, true, false, not, cond, if◌then◌else◌, List, [], ◌∷◌, length, map, sum_by, Option}
use Rattle.std.proofs.Common.{None, Some, option_map, IfSome, refl, sym, ◌∙◌, ap, arith}
use Rattle.std.specs.Prelude.{slice_index}
use Rattle.std.specs.List.{find, list_all, range_with_len}
use Rattle.std.specs.Option.{option_map_or}
use Rattle.std.proofs.lemmas.List.Elements.{All-head, All-tail}
use Rattle.ad_store.specs.Stock.{Stock}
use Rattle.ad_store.proofs.HeldLemmas.{both}
use Rattle.dock_match.specs.Docks.{is_last_decided}
use Rattle.claim_table.specs.Jobs.{is_named, lists, offer_of, slots_of}
use Rattle.claim_table.specs.declared.job.Job.{Job}
use Rattle.claim_table.specs.declared.job.Stage.{Stage}
use Rattle.claim_table.specs.Priorities.{Setting, priority_of}
use Rattle.claim_table.specs.Claims as claims
use Rattle.pool_books.specs.Books.{name_in, named_standing, queued}
use Rattle.pool_books.specs.Claiming as seen
use Rattle.pool_books.specs.Queue.{is_job, offer_names}
use Rattle.pool_books.specs.State.{QueuedJob, State}
use Rattle.pool_books.specs.Stored.{are_stored, is_stored}
use Rattle.pool_books.proofs.ClaimedLemmas.{passes-seen, world-seen}
use Rattle.pool_books.proofs.JobLemmas.{found-first}
use Rattle.pool_books.proofs.MatchedLemmas.{IsOwned}
use Rattle.pool_books.proofs.NameLemmas.{AreBeside}

-- ---- the ports of an offer

length-names : (name : ℕ → List ℕ) (slots : List ℕ) → length (map name slots) ≡ length slots
length-names name [] = refl
length-names name (s ∷ slots) = let rest = length-names name slots in omega (arith, rest)

name-at : (name : ℕ → List ℕ) (slots : List ℕ) (port : ℕ) → port < length slots → seen.name_at (map name slots) port ≡ name (slice_index slots port)
name-at name [] port within = absurd (omega (arith, within))
name-at name (s ∷ slots) zero within = refl
name-at name (s ∷ slots) (suc port) within = name-at name slots port (omega (arith, within))

slot-at : (test : ℕ → Bool) (slots : List ℕ) (port : ℕ) → list_all test slots ≡ true → port < length slots → test (slice_index slots port) ≡ true
slot-at test [] port all within = absurd (omega (arith, within))
slot-at test (s ∷ slots) zero all within = (both (test s) (list_all test slots) all).0
slot-at test (s ∷ slots) (suc port) all within = slot-at test slots port (both (test s) (list_all test slots) all).1 (omega (arith, within))

-- the first that passes one test is what the first that passes the other is, where they say the same
found-alike : {B C : Type 0} (p q : ℕ → Bool) (f : ℕ → B) (g : ℕ → C) (h : C → B) (a n end : ℕ) → a + n ≤ end
    → ((port : ℕ) → port < end → (p port ≡ q port) × (f port ≡ h (g port)))
    → option_map f (find p (range_with_len a n)) ≡ option_map h (option_map g (find q (range_with_len a n)))
found-alike p q f g h a zero end fits same = refl
found-alike p q f g h a (suc n) end fits same =
    let here = same a (omega (arith, fits)) in
    ap (λ b. option_map f (cond b (Some a) (find p (range_with_len (a + 1) n)))) here.0
    ∙ by (q a) here.1 (found-alike p q f g h (a + 1) n end (omega (arith, fits)) same)
  where
    by : (b : Bool) → f a ≡ h (g a) → option_map f (find p (range_with_len (a + 1) n)) ≡ option_map h (option_map g (find q (range_with_len (a + 1) n)))
        → option_map f (cond b (Some a) (find p (range_with_len (a + 1) n))) ≡ option_map h (option_map g (cond b (Some a) (find q (range_with_len (a + 1) n))))
    by true is later = ap (λ x. Some x) is
    by false is later = later

found-holds : (q : ℕ → Bool) (g : ℕ → ℕ) (P : ℕ → Type 0) (a n end : ℕ) → a + n ≤ end → ((port : ℕ) → port < end → P (g port))
    → IfSome (option_map g (find q (range_with_len a n))) P
found-holds q g P a zero end fits holds = tt
found-holds q g P a (suc n) end fits holds = by (q a) (found-holds q g P (a + 1) n end (omega (arith, fits)) holds)
  where
    by : (b : Bool) → IfSome (option_map g (find q (range_with_len (a + 1) n))) P
        → IfSome (option_map g (cond b (Some a) (find q (range_with_len (a + 1) n)))) P
    by true later = holds a (omega (arith, fits))
    by false later = later

-- ---- the job of a name

pub job-seen : (stock : Stock) (name : List ℕ) (jobs : List Job)
    → seen.job_named name (map (queued stock) jobs) ≡ option_map (queued stock) (find (is_named name) jobs)
job-seen stock name [] = refl
job-seen stock name (job ∷ jobs) = by (is_named name job) (job-seen stock name jobs)
  where
    by : (b : Bool) → find (is_job name) (map (queued stock) jobs) ≡ option_map (queued stock) (find (is_named name) jobs)
        → cond b (Some (queued stock job)) (find (is_job name) (map (queued stock) jobs))
        ≡ option_map (queued stock) (cond b (Some job) (find (is_named name) jobs))
    by true rest = refl
    by false rest = rest

-- what holds of a job that is found
pub found-both : (slots : List ℕ) (name : List ℕ) (jobs : List Job) → are_stored slots jobs ≡ true → All IsOwned jobs
    → IfSome (find (is_named name) jobs) (λ job. IsOwned job × (is_stored slots job ≡ true))
found-both slots name [] stored owned = tt
found-both slots name (job ∷ jobs) stored owned = by (is_named name job) (found-both slots name jobs parts.1 (All-tail IsOwned job jobs owned))
  where
    parts : (is_stored slots job ≡ true) × (are_stored slots jobs ≡ true)
    parts = both (is_stored slots job) (are_stored slots jobs) stored

    by : (b : Bool) → IfSome (find (is_named name) jobs) (λ j. IsOwned j × (is_stored slots j ≡ true))
        → IfSome (cond b (Some job) (find (is_named name) jobs)) (λ j. IsOwned j × (is_stored slots j ≡ true))
    by true rest = (All-head IsOwned job jobs owned, parts.0)
    by false rest = rest

pub offer-names : (stock : Stock) (standing : Stage) → offer_names (named_standing stock standing) ≡ map (name_in stock) (offer_of standing)
offer-names stock Stage.Idle = refl
offer-names stock (Stage.Matched slots) = refl
offer-names stock (Stage.Claimed slots) = refl

pub offer-held : (slots : List ℕ) (standing : Stage) → list_all (lists slots) (slots_of standing) ≡ true → list_all (lists slots) (offer_of standing) ≡ true
offer-held slots Stage.Idle held = refl
offer-held slots (Stage.Matched own) held = held
offer-held slots (Stage.Claimed own) held = refl

-- ---- an offer

module _ (stock : Stock) (beside : AreBeside stock.ads stock.slots) (moment : ℕ) (settings : List Setting) (jobs : List Job)
    (stored : are_stored stock.slots jobs ≡ true) (owned : All IsOwned jobs) where
  abbrev state : State
  state = record { moment = moment; ads = stock.ads; jobs = map (queued stock) jobs; priorities = settings }

  module _ (job : Job) (alone : IsOwned job) (slots : List ℕ) (listed : list_all (lists stock.slots) slots ≡ true) where
    abbrev names : List (List ℕ)
    names = map (name_in stock) slots

    -- of the job's user
    abbrev number : ℕ
    number = priority_of job.user settings

    abbrev fails_named : ℕ → Bool
    fails_named port =
        not (seen.passes moment stock.ads settings (map (queued stock) jobs) number (seen.name_at names port)
        (seen.world_at moment stock.ads (queued stock job) names port))

    abbrev fails_slots : ℕ → Bool
    fails_slots port = not (claims.passes moment stock settings jobs number (slice_index slots port) (claims.world_at moment stock job.request slots port))

    each : (port : ℕ) → port < length slots → (fails_named port ≡ fails_slots port) × (seen.name_at names port ≡ name_in stock (slice_index slots port))
    each port within =
        let name = name-at (name_in stock) slots port within in (
          ap (λ n. not (seen.passes moment stock.ads settings (map (queued stock) jobs) number n
              (seen.world_at moment stock.ads (queued stock job) names port))) name
              ∙ ap (λ w. not (seen.passes moment stock.ads settings (map (queued stock) jobs) number (name_in stock (slice_index slots port)) w))
              (world-seen stock beside moment job alone slots listed port)
              ∙ ap not (passes-seen stock beside moment settings jobs number stored owned (slice_index slots port)
              (slot-at (lists stock.slots) slots port listed within) (claims.world_at moment stock job.request slots port)),
          name,
        )

    -- the first that fails
    pub failing-seen : seen.first_failing state (queued stock job) (map (name_in stock) slots)
        ≡ option_map (name_in stock) (claims.first_failing moment stock settings jobs number job.request slots)
    failing-seen =
        ap (λ n. option_map (seen.name_at names) (find fails_named (range_with_len 0 n))) (length-names (name_in stock) slots)
        ∙ found-alike fails_named fails_slots (seen.name_at names) (slice_index slots) (name_in stock) 0 (length slots) (length slots) (omega arith) each

    -- is in the store
    pub failing-stored : IfSome (claims.first_failing moment stock settings jobs number job.request slots) (λ slot. lists stock.slots slot ≡ true)
    failing-stored =
        found-holds fails_slots (slice_index slots) (λ slot. lists stock.slots slot ≡ true) 0 (length slots) (length slots) (omega arith)
        (λ port within. slot-at (lists stock.slots) slots port listed within)

    undecided-one : seen.undecided_in state (queued stock job) names
        ≡ sum_by (λ port. if is_last_decided (claims.world_at moment stock job.request slots port) then 0 else 1) (claims.ports_of slots)
    undecided-one =
        ap (λ n. sum_by (λ port. if is_last_decided (seen.world_at moment stock.ads (queued stock job) names port) then 0 else 1) (range_with_len 0 n))
        (length-names (name_in stock) slots)
        ∙ (λ i. sum_by (λ port. if is_last_decided (world-seen stock beside moment job alone slots listed port i) then 0 else 1)
        (range_with_len 0 (length slots)))

  -- ---- what is counted

  abbrev undecided : Job → ℕ
  undecided job = claims.sum_over (λ slot world. if is_last_decided world then 0 else 1) moment stock job

  undecided-job : (job : Job) → IsOwned job → is_stored stock.slots job ≡ true
      → seen.undecided_in state (queued stock job) (offer_names (named_standing stock job.standing)) ≡ undecided job
  undecided-job job alone held =
      ap (seen.undecided_in state (queued stock job)) (offer-names stock job.standing)
      ∙ undecided-one job alone (offer_of job.standing) (offer-held stock.slots job.standing held)

  pub undecided-seen : (name : List ℕ) → seen.undecided_for_claim state name ≡ claims.undecided_for moment stock name jobs
  undecided-seen name =
      ap (λ o. option_map_or (λ (q : QueuedJob). seen.undecided_in state q (offer_names q.standing)) o 0) (job-seen stock name jobs)
      ∙ by (find (is_named name) jobs) (found-both stock.slots name jobs stored owned)
      ∙ sym (ap (λ o. option_map_or undecided o 0) (found-first (is_named name) jobs))
    where
      by : (o : Option Job) → IfSome o (λ job. IsOwned job × (is_stored stock.slots job ≡ true))
          → option_map_or (λ (q : QueuedJob). seen.undecided_in state q (offer_names q.standing)) (option_map (queued stock) o) 0 ≡ option_map_or undecided o 0
      by None holds = refl
      by (Some job) holds = undecided-job job holds.0 holds.1

  -- the resources that are looked at
  pub offered-seen : (name : List ℕ) → seen.offered_for_claim state name ≡ length (claims.offer_named name jobs)
  offered-seen name =
      ap (λ o. option_map_or (λ (q : QueuedJob). length (offer_names q.standing)) o 0) (job-seen stock name jobs)
      ∙ by (find (is_named name) jobs)
      ∙ sym (ap (λ o. length (option_map_or (λ (j : Job). offer_of j.standing) o [])) (found-first (is_named name) jobs))
    where
      by : (o : Option Job)
          → option_map_or (λ (q : QueuedJob). length (offer_names q.standing)) (option_map (queued stock) o) 0
          ≡ length (option_map_or (λ (j : Job). offer_of j.standing) o [])
      by None = refl
      by (Some job) = ap length (offer-names stock job.standing) ∙ length-names (name_in stock) (offer_of job.standing)
