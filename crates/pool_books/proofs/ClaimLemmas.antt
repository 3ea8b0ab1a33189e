-- A claim and a release by slots and numbers are those by names.
use Rattle.std.proofs.Common.{◌≡◌, ℕ, zero, suc, All, Bool, true, false, ◌&&◌, bytes_eq, cond, List, [], ◌∷◌, map, slice_get, Contains, Option, None, Some}
use Rattle.std.proofs.Common.{option_map, Result, Ok, Err, OnErr, OnOk, IfSome, refl, sym, ◌∙◌, ap, subst}
use Rattle.std.specs.List.{find, list_all}
use Rattle.std.specs.Option.{option_and_then, option_map_or}
use Rattle.std.specs.Cmp.Lexicographic.{bytes_decides}
use Rattle.std.proofs.lemmas.List.Elements.{All-cons, All-head, All-nil, All-tail}
use Rattle.std.proofs.lemmas.Option.{none-some, same_Some}
use Rattle.ad_tree.specs.declared.request.Request.{Request}
use Rattle.ad_store.specs.Stock.{Stock}
use Rattle.ad_store.proofs.HeldLemmas.{both}
use Rattle.claim_table.specs.Answers.{given_back, release_answer}
use Rattle.claim_table.specs.Jobs.{AreExclusive, AreNamedApart, claim_of, idle_at, is_named, job_named, lists, numbered, slots_of, with_standing}
use Rattle.claim_table.specs.declared.answers.ClaimFault.{ClaimFault}
use Rattle.claim_table.specs.declared.answers.Freed.{Freed}
use Rattle.claim_table.specs.declared.answers.JobFault.{JobFault}
use Rattle.claim_table.specs.declared.job.Job.{Job}
use Rattle.claim_table.specs.declared.job.Stage.{Stage}
use Rattle.claim_table.specs.Priorities.{Setting, priority_of}
use Rattle.pool_replies.specs.declared.reply.Reply.{Reply}
use Rattle.claim_table.specs.Claims as claims
use Rattle.pool_replies.specs.declared.refusal.Refusal.TheVariants as why
use Rattle.pool_replies.specs.declared.reply.Reply.TheVariants as reply
use Rattle.pool_books.specs.Books.{name_in, named_standing, queued}
use Rattle.pool_books.specs.ClaimAnswers.{IsClaimAnswer, IsReleaseAnswer, names_given}
use Rattle.pool_books.specs.Claiming as seen
use Rattle.pool_books.specs.Queue.{names_of}
use Rattle.pool_books.specs.State.{JobStanding, QueuedJob, State, idle}
use Rattle.pool_books.specs.Stored.{are_stored, is_stored}
use Rattle.pool_books.proofs.FailingLemmas.{failing-seen, failing-stored, found-both, job-seen}
use Rattle.pool_books.proofs.GrantedLemmas.{granted-seen, restood-seen}
use Rattle.pool_books.proofs.JobLemmas.{found-first}
use Rattle.pool_books.proofs.LosersLemmas.{idle-seen, losers-seen}
use Rattle.pool_books.proofs.MatchedLemmas.{IsOwned, kept-standing, standing_next}
use Rattle.pool_books.proofs.NameLemmas.{AreBeside}
use Rattle.pool_books.proofs.QueueLemmas.{RequestIs, names-mapped}
use Rattle.pool_books.proofs.SlotLemmas.{all-contained, all-lists, lists-contains}

-- ---- what jobs list is in the store

abbrev ListsOf : List ℕ → Job → Type 0
ListsOf slots job = All (Contains slots) (slots_of job.standing)

pub all-held : (slots : List ℕ) (jobs : List Job) → are_stored slots jobs ≡ true → All (λ job. All (Contains slots) (slots_of job.standing)) jobs
all-held slots [] stored = All-nil (ListsOf slots)
all-held slots (job ∷ jobs) stored =
    let parts = both (is_stored slots job) (are_stored slots jobs) stored in
    All-cons (ListsOf slots) job jobs (all-contained slots (slots_of job.standing) parts.0) (all-held slots jobs parts.1)

pub held-all : (slots : List ℕ) (jobs : List Job) → All (λ job. All (Contains slots) (slots_of job.standing)) jobs → are_stored slots jobs ≡ true
held-all slots [] all = refl
held-all slots (job ∷ jobs) all =
    ap (λ b. b && are_stored slots jobs) (all-lists slots (slots_of job.standing) (All-head (ListsOf slots) job jobs all))
    ∙ held-all slots jobs (All-tail (ListsOf slots) job jobs all)

idle-stored : (slots : List ℕ) (i : ℕ) (jobs : List Job) → are_stored slots jobs ≡ true → are_stored slots (with_standing jobs i Stage.Idle) ≡ true
idle-stored slots i [] stored = refl
idle-stored slots zero (x ∷ xs) stored = (both (is_stored slots x) (are_stored slots xs) stored).1
idle-stored slots (suc i) (x ∷ xs) stored =
    let parts = both (is_stored slots x) (are_stored slots xs) stored in
    ap (are_stored slots) (standing_next (slice_get xs i) x xs i Stage.Idle)
    ∙ ap (λ b. b && are_stored slots (with_standing xs i Stage.Idle)) parts.0
    ∙ idle-stored slots i xs parts.1

pub released-stored : (slots : List ℕ) (o : Option ℕ) (jobs : List Job) → are_stored slots jobs ≡ true → are_stored slots (idle_at o jobs) ≡ true
released-stored slots None jobs stored = stored
released-stored slots (Some i) jobs stored = idle-stored slots i jobs stored

-- ---- jobs keep their requests

kept-idle : (P : Request → Type 0) (ks : List ℕ) (jobs : List Job) → All (RequestIs P) jobs → All (RequestIs P) (claims.all_idle jobs ks)
kept-idle P [] jobs kept = kept
kept-idle P (k ∷ ks) jobs kept = kept-idle P ks (idle_at (Some k) jobs) (kept-standing P k Stage.Idle jobs kept)

pub kept-released : (P : Request → Type 0) (o : Option ℕ) (jobs : List Job) → All (RequestIs P) jobs → All (RequestIs P) (idle_at o jobs)
kept-released P None jobs kept = kept
kept-released P (Some i) jobs kept = kept-standing P i Stage.Idle jobs kept

-- ---- the job of a name

named-by : (name : List ℕ) (jobs : List Job) (job : Job) → find (is_named name) jobs ≡ Some job → is_named name job ≡ true
named-by name [] job found = absurd (none-some job found)
named-by name (x ∷ xs) job found = by (is_named name x) refl found (λ later. named-by name xs job later)
  where
    by : (b : Bool) → is_named name x ≡ b → cond b (Some x) (find (is_named name) xs) ≡ Some job
        → (find (is_named name) xs ≡ Some job → is_named name job ≡ true) → is_named name job ≡ true
    by true is here rest = let same : x ≡ job = same_Some x job here in ap (is_named name) (sym same) ∙ is
    by false is later rest = rest later

itself : (name : List ℕ) → bytes_eq name name ≡ true
itself name = (bytes_decides name name).1 refl

-- the names of the resources of the job of a name
pub given-seen : (stock : Stock) (name : List ℕ) (jobs : List Job)
    → map (name_in stock) (option_map_or (λ job. slots_of job.standing) (job_named name jobs) []) ≡ names_given name (map (queued stock) jobs)
given-seen stock name jobs =
    ap (λ o. map (name_in stock) (option_map_or (λ (j : Job). slots_of j.standing) o [])) (found-first (is_named name) jobs)
    ∙ by (find (is_named name) jobs)
    ∙ sym (ap (λ o. option_map_or (λ (q : QueuedJob). names_of q.standing) o []) (job-seen stock name jobs))
  where
    by : (o : Option Job)
        → map (name_in stock) (option_map_or (λ (j : Job). slots_of j.standing) o [])
        ≡ option_map_or (λ (q : QueuedJob). names_of q.standing) (option_map (queued stock) o) []
    by None = refl
    by (Some job) = sym (names-mapped stock job.standing)

-- the slots of the job of a name are in the store
pub given-held : (slots : List ℕ) (name : List ℕ) (jobs : List Job) → are_stored slots jobs ≡ true → All IsOwned jobs
    → All (Contains slots) (option_map_or (λ job. slots_of job.standing) (job_named name jobs) [])
given-held slots name jobs stored owned =
    subst (λ (o : Option Job). All (Contains slots) (option_map_or (λ (j : Job). slots_of j.standing) o [])) (sym (found-first (is_named name) jobs))
    (by (find (is_named name) jobs) (found-both slots name jobs stored owned))
  where
    by : (o : Option Job) → IfSome o (λ job. IsOwned job × (is_stored slots job ≡ true))
        → All (Contains slots) (option_map_or (λ (j : Job). slots_of j.standing) o [])
    by None holds = All-nil (Contains slots)
    by (Some job) holds = all-contained slots (slots_of job.standing) holds.1

-- ---- claims

-- an answer, and the jobs behind it
abbrev Answer : Type 0
Answer = Result (List Freed) ClaimFault × List Job

module _ (stock : Stock) (moment : ℕ) (settings : List Setting) where
  abbrev state_of : List Job → State
  state_of js = record { moment = moment; ads = stock.ads; jobs = map (queued stock) js; priorities = settings }

  -- a state with other jobs
  abbrev then_jobs : List QueuedJob → State
  then_jobs queue = record { moment = moment; ads = stock.ads; jobs = queue; priorities = settings }

  module _ (beside : AreBeside stock.ads stock.slots) (name : List ℕ) (jobs : List Job) (stored : are_stored stock.slots jobs ≡ true) (owned : All IsOwned jobs)
      (apart : AreNamedApart jobs) (exclusive : AreExclusive claim_of jobs) where
    abbrev Fits : Answer → Type 0
    Fits a = IsClaimAnswer stock (state_of jobs) name (state_of a.1) a.0

    abbrev nobody : Answer
    nobody = (Err ClaimFault.NoJob, jobs)

    -- by the job that is found
    claim-found : (o : Option Job) → find (is_named name) jobs ≡ o
        → ◌≡◌ {A = State × Reply} (seen.claim (state_of jobs) name)
        (option_map_or (λ (q : QueuedJob). seen.claim_as (state_of jobs) q q.standing) (option_map (queued stock) o)
        (state_of jobs, reply.Refused why.UnknownName))
    claim-found o found =
        ap (λ (f : Option QueuedJob). option_map_or (λ (q : QueuedJob). seen.claim_as (state_of jobs) q q.standing) f
        (state_of jobs, reply.Refused why.UnknownName)) (job-seen stock name jobs)
        ∙ ap (λ (f : Option Job). option_map_or (λ (q : QueuedJob). seen.claim_as (state_of jobs) q q.standing) (option_map (queued stock) f)
        (state_of jobs, reply.Refused why.UnknownName)) found

    module _ (i : ℕ) (job : Job) (slots : List ℕ) (at : slice_get jobs i ≡ Some job) (named : is_named name job ≡ true)
        (listed : list_all (lists stock.slots) slots ≡ true) (given : names_given name (map (queued stock) jobs) ≡ map (name_in stock) slots) where
      abbrev gained : Answer
      gained = (Ok (claims.freed_all jobs (claims.losers jobs slots)), claims.granted jobs i slots)

      behind : map (queued stock) (claims.granted jobs i slots)
          ≡ seen.restood job.name (JobStanding.claimed (map (name_in stock) slots)) (seen.without_holders (map (name_in stock) slots) (map (queued stock) jobs))
      behind =
          granted-seen stock job.name (Stage.Claimed slots) jobs (claims.losers jobs slots) i job apart at (itself job.name)
          ∙ ap (seen.restood job.name (JobStanding.claimed (map (name_in stock) slots))) (idle-seen stock beside slots listed jobs exclusive stored)

      checked-fits : (failing : Option ℕ) → IfSome failing (λ slot. lists stock.slots slot ≡ true)
          → ◌≡◌ {A = State × Reply} (seen.claim (state_of jobs) name)
          (seen.checked (state_of jobs) (queued stock job) (map (name_in stock) slots) (option_map (name_in stock) failing))
          → Fits (option_map_or (λ slot. (Err (ClaimFault.Stale slot), with_standing jobs i Stage.Idle)) failing gained)
      checked-fits (Some slot) held is = (
        lists-contains stock.slots slot held,
        is ∙ ap (λ (queue : List QueuedJob). pair queue) (sym (restood-seen stock job.name Stage.Idle jobs i job apart at (itself job.name))),
      )
        where
          pair : List QueuedJob → State × Reply
          pair queue = (then_jobs queue, reply.Refused (why.Stale (name_in stock slot)))
      checked-fits None held is =
          is ∙ ap (λ (queue : List QueuedJob). told queue job.name (map (name_in stock) slots)
          (seen.losers (map (queued stock) jobs) (map (name_in stock) slots))) (sym behind)
          ∙ ap (λ (n : List ℕ). told (map (queued stock) (claims.granted jobs i slots)) n (map (name_in stock) slots)
          (seen.losers (map (queued stock) jobs) (map (name_in stock) slots))) (sym ((bytes_decides name job.name).0 named))
          ∙ ap (λ (ns : List (List ℕ)). told (map (queued stock) (claims.granted jobs i slots)) name ns
          (seen.losers (map (queued stock) jobs) (map (name_in stock) slots))) (sym given)
          ∙ ap (told (map (queued stock) (claims.granted jobs i slots)) name (names_given name (map (queued stock) jobs)))
          (sym (losers-seen stock beside jobs apart stored slots listed))
        where
          told : List QueuedJob → List ℕ → List (List ℕ) → List (List ℕ) → State × Reply
          told queue n ns lost = (then_jobs queue, reply.Claimed n ns lost)

    at-fits : (i : ℕ) (job : Job) (s : Stage) → slice_get jobs i ≡ Some (record job { standing = s }) → is_named name job ≡ true → IsOwned job
        → list_all (lists stock.slots) (slots_of s) ≡ true
        → names_given name (map (queued stock) jobs) ≡ names_of (named_standing stock s)
        → ◌≡◌ {A = State × Reply} (seen.claim (state_of jobs) name)
        (seen.claim_as (state_of jobs) (queued stock (record job { standing = s })) (named_standing stock s))
        → Fits (claims.claimed_at moment stock settings jobs i (record job { standing = s }))
    at-fits i job Stage.Idle at named alone held given is = (refl, is)
    at-fits i job (Stage.Claimed slots) at named alone held given is = (refl, is)
    at-fits i job (Stage.Matched slots) at named alone held given is =
        checked-fits i (record job { standing = Stage.Matched slots }) slots at named held given
        (claims.first_failing moment stock settings jobs (priority_of job.user settings) job.request slots)
        (failing-stored stock beside moment settings jobs stored owned (record job { standing = Stage.Matched slots }) alone slots held)
        (is ∙ ap (seen.checked (state_of jobs) (queued stock (record job { standing = Stage.Matched slots })) (map (name_in stock) slots))
        (failing-seen stock beside moment settings jobs stored owned (record job { standing = Stage.Matched slots }) alone slots held))

    given-one : (job : Job) → find (is_named name) jobs ≡ Some job → names_given name (map (queued stock) jobs) ≡ names_of (named_standing stock job.standing)
    given-one job found =
        ap (λ o. option_map_or (λ (q : QueuedJob). names_of q.standing) o []) (job-seen stock name jobs ∙ ap (option_map (queued stock)) found)

    job-fits : (i : ℕ) (o : Option Job) → slice_get jobs i ≡ o → find (is_named name) jobs ≡ o
        → Fits (option_map_or (claims.claimed_at moment stock settings jobs i) o nobody)
    job-fits i None at found = claim-found None found
    job-fits i (Some job) at found =
        let holds : IsOwned job × (is_stored stock.slots job ≡ true) =
        subst (λ (o : Option Job). IfSome o (λ j. IsOwned j × (is_stored stock.slots j ≡ true))) found (found-both stock.slots name jobs stored owned) in
        at-fits i job job.standing at (named-by name jobs job found) holds.0 holds.1 (given-one job found) (claim-found (Some job) found)

    fits : Fits (claims.claimed moment stock settings name jobs)
    fits = by (numbered name jobs) (found-first (is_named name) jobs)
      where
        by : (o : Option ℕ) → option_and_then (λ i. slice_get jobs i) o ≡ find (is_named name) jobs
            → Fits (option_map_or (λ i. option_map_or (claims.claimed_at moment stock settings jobs i) (slice_get jobs i) nobody) o nobody)
        by None found = claim-found None (sym found)
        by (Some i) found = job-fits i (slice_get jobs i) refl (sym found)

    -- after a claim, whatever it answers
    pub claim-seen : (answer : Result (List Freed) ClaimFault) (new : List Job)
        → claims.IsClaimed answer jobs new (claims.claimed moment stock settings name jobs) → IsClaimAnswer stock (state_of jobs) name (state_of new) answer
    claim-seen (Ok freed) new same = subst Fits same fits
    claim-seen (Err ClaimFault.NoJob) new same = subst Fits same fits
    claim-seen (Err (ClaimFault.WrongState state)) new same = subst Fits same fits
    claim-seen (Err (ClaimFault.Stale slot)) new same = subst Fits same fits
    claim-seen (Err ClaimFault.OutOfMemory) new same = ap state_of same

-- ---- and after a claim

module _ (P : Request → Type 0) (moment : ℕ) (stock : Stock) (settings : List Setting) (name : List ℕ) (jobs : List Job) (kept : All (RequestIs P) jobs) where
  abbrev no_job : Answer
  no_job = (Err ClaimFault.NoJob, jobs)

  checked-kept : (i : ℕ) (slots : List ℕ) (o : Option ℕ)
      → All (RequestIs P) (option_map_or {U = Answer} (λ slot. (Err (ClaimFault.Stale slot), with_standing jobs i Stage.Idle)) o
      (Ok (claims.freed_all jobs (claims.losers jobs slots)), claims.granted jobs i slots)).1
  checked-kept i slots None =
      kept-standing P i (Stage.Claimed slots) (claims.all_idle jobs (claims.losers jobs slots)) (kept-idle P (claims.losers jobs slots) jobs kept)
  checked-kept i slots (Some slot) = kept-standing P i Stage.Idle jobs kept

  at-kept : (i : ℕ) (job : Job) (s : Stage) → All (RequestIs P) (claims.claimed_at moment stock settings jobs i (record job { standing = s })).1
  at-kept i job Stage.Idle = kept
  at-kept i job (Stage.Claimed slots) = kept
  at-kept i job (Stage.Matched slots) = checked-kept i slots (claims.first_failing moment stock settings jobs (priority_of job.user settings) job.request slots)

  job-kept : (i : ℕ) (o : Option Job) → All (RequestIs P) (option_map_or {U = Answer} (claims.claimed_at moment stock settings jobs i) o no_job).1
  job-kept i None = kept
  job-kept i (Some job) = at-kept i job job.standing

  claimed-kept : All (RequestIs P) (claims.claimed moment stock settings name jobs).1
  claimed-kept = by (numbered name jobs)
    where
      by : (o : Option ℕ)
          → All (RequestIs P) (option_map_or {U = Answer} (λ i. option_map_or (claims.claimed_at moment stock settings jobs i) (slice_get jobs i) no_job) o
          no_job).1
      by None = kept
      by (Some i) = job-kept i (slice_get jobs i)

  after-kept : (answer : Result (List Freed) ClaimFault) (new : List Job) → claims.claimed moment stock settings name jobs ≡ (answer, new)
      → All (RequestIs P) new
  after-kept answer new same = subst (All (RequestIs P)) (ap (λ (x : Answer). x.1) same) claimed-kept

  pub claim-kept : (answer : Result (List Freed) ClaimFault) (new : List Job)
      → claims.IsClaimed answer jobs new (claims.claimed moment stock settings name jobs) → All (RequestIs P) new
  claim-kept (Ok freed) new same = after-kept (Ok freed) new same
  claim-kept (Err ClaimFault.NoJob) new same = after-kept (Err ClaimFault.NoJob) new same
  claim-kept (Err (ClaimFault.WrongState state)) new same = after-kept (Err (ClaimFault.WrongState state)) new same
  claim-kept (Err (ClaimFault.Stale slot)) new same = after-kept (Err (ClaimFault.Stale slot)) new same
  claim-kept (Err ClaimFault.OutOfMemory) new same = subst (All (RequestIs P)) (sym same) kept

-- ---- releases

module _ (stock : Stock) (moment : ℕ) (settings : List Setting) (name : List ℕ) (jobs : List Job) (apart : AreNamedApart jobs) where
  abbrev here : List Job → State
  here js = record { moment = moment; ads = stock.ads; jobs = map (queued stock) js; priorities = settings }

  -- the jobs where the table answers so
  abbrev jobs_behind : Result (List ℕ) JobFault → List Job
  jobs_behind (Ok slots) = idle_at (numbered name jobs) jobs
  jobs_behind (Err fault) = jobs

  abbrev IsFree : Result (List ℕ) JobFault → Type 0
  IsFree r = IsReleaseAnswer (here jobs) name (here (jobs_behind r)) r

  release-found : (o : Option Job) → find (is_named name) jobs ≡ o
      → ◌≡◌ {A = State × Reply} (seen.release (here jobs) name)
      (option_map_or (λ (q : QueuedJob). seen.release_as (here jobs) q q.standing) (option_map (queued stock) o) (here jobs, reply.Refused why.UnknownName))
  release-found o found =
      ap (λ (f : Option QueuedJob). option_map_or (λ (q : QueuedJob). seen.release_as (here jobs) q q.standing) f (here jobs, reply.Refused why.UnknownName))
      (job-seen stock name jobs)
      ∙ ap (λ (f : Option Job). option_map_or (λ (q : QueuedJob). seen.release_as (here jobs) q q.standing) (option_map (queued stock) f)
      (here jobs, reply.Refused why.UnknownName)) found

  module _ (i : ℕ) (number : numbered name jobs ≡ Some i) where
    freed-one : (job : Job) → slice_get jobs i ≡ Some job → is_named name job ≡ true
        → ◌≡◌ {A = State × Reply} (seen.release (here jobs) name)
        (record (here jobs) { jobs = seen.restood job.name idle (map (queued stock) jobs) }, reply.Released job.name)
        → ◌≡◌ {A = State × Reply} (seen.release (here jobs) name) (here (idle_at (numbered name jobs) jobs), reply.Released name)
    freed-one job at named is =
        is ∙ ap (λ (queue : List QueuedJob). told queue job.name)
        (sym (ap (λ o. map (queued stock) (idle_at o jobs)) number ∙ restood-seen stock job.name Stage.Idle jobs i job apart at (itself job.name)))
        ∙ ap (told (map (queued stock) (idle_at (numbered name jobs) jobs))) (sym ((bytes_decides name job.name).0 named))
      where
        told : List QueuedJob → List ℕ → State × Reply
        told queue n = (record { moment = moment; ads = stock.ads; jobs = queue; priorities = settings }, reply.Released n)

    at-free : (job : Job) (s : Stage) → slice_get jobs i ≡ Some (record job { standing = s }) → is_named name job ≡ true
        → ◌≡◌ {A = State × Reply} (seen.release (here jobs) name)
        (seen.release_as (here jobs) (queued stock (record job { standing = s })) (named_standing stock s))
        → IsFree (given_back s)
    at-free job Stage.Idle at named is = (refl, is)
    at-free job (Stage.Matched slots) at named is = freed-one (record job { standing = Stage.Matched slots }) at named is
    at-free job (Stage.Claimed slots) at named is = freed-one (record job { standing = Stage.Claimed slots }) at named is

    job-free : (o : Option Job) → slice_get jobs i ≡ o → find (is_named name) jobs ≡ o
        → IsFree (option_map_or (λ job. given_back job.standing) o (Err JobFault.NoJob))
    job-free None at found = release-found None found
    job-free (Some job) at found = at-free job job.standing at (named-by name jobs job found) (release-found (Some job) found)

  pub release-seen : IsFree (release_answer name jobs)
  release-seen = by (numbered name jobs) refl (found-first (is_named name) jobs)
    where
      by : (o : Option ℕ) → numbered name jobs ≡ o → option_and_then (λ i. slice_get jobs i) o ≡ find (is_named name) jobs
          → IsFree (option_map_or (λ job. given_back job.standing) (option_and_then (λ i. slice_get jobs i) o) (Err JobFault.NoJob))
      by None number found = release-found None (sym found)
      by (Some i) number found = job-free i number (slice_get jobs i) refl (sym found)

  pub released : (r : Result (List ℕ) JobFault) (later : List Job) → r ≡ release_answer name jobs → OnOk r (later ≡ idle_at (numbered name jobs) jobs)
      → OnErr r (later ≡ jobs) → IsReleaseAnswer (here jobs) name (here later) r
  released (Ok slots) later is ok err =
      subst (λ (js : List Job). IsReleaseAnswer (here jobs) name (here js) (Ok slots)) (sym ok) (subst IsFree (sym is) release-seen)
  released (Err fault) later is ok err =
      subst (λ (js : List Job). IsReleaseAnswer (here jobs) name (here js) (Err fault)) (sym err) (subst IsFree (sym is) release-seen)
