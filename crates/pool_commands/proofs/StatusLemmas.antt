-- What is told of jobs and users, by the table of jobs and by the state.
use Rattle.std.proofs.Common.{◌≡◌, ◌∙◌, ◌++◌, ℕ, zero, suc, All, true, List, [], ◌∷◌, map, take, Contains, Option, None, Some, option_map, slice_get, refl, sym}
use Rattle.std.proofs.Common.{ap, subst}
use Rattle.std.specs.Option.{option_and_then, option_map_or}
use Rattle.std.proofs.lemmas.Option.{none-some, same_Some}
use Rattle.ad_printer.specs.Values.{printed_frame}
use Rattle.ad_store.specs.Stock.{Stock}
use Rattle.ad_tree.specs.Ad.{ad_frames}
use Rattle.ad_tree.specs.declared.request.Request.{Request}
use Rattle.claim_table.specs.Jobs.{is_named, numbered, slots_of, state_of}
use Rattle.claim_table.specs.declared.answers.JobState.{JobState}
use Rattle.claim_table.specs.declared.job.Job.{Job}
use Rattle.claim_table.specs.declared.job.Stage.{Stage}
use Rattle.pool_replies.specs.declared.rows.JobRow.{JobRow}
use Rattle.pool_replies.specs.declared.refusal.Refusal.TheVariants as why
use Rattle.pool_replies.specs.declared.reply.Reply.TheVariants as reply
use Rattle.user_counts.specs.Users as counted
use Rattle.pool_books.specs.Books.{name_in, named_standing, queued}
use Rattle.pool_books.specs.Claiming.{job_named}
use Rattle.pool_books.specs.Queue.{names_of}
use Rattle.pool_books.specs.State.{QueuedJob}
use Rattle.pool_books.specs.Stored.{are_stored}
use Rattle.pool_books.proofs.ClaimLemmas.{all-held}
use Rattle.pool_books.proofs.FailingLemmas.{job-seen}
use Rattle.pool_books.proofs.JobLemmas.{found-first}
use Rattle.pool_books.proofs.QueueLemmas.{names-mapped}
use Rattle.pool_commands.specs.Status.{job_row, show_job, state_in, user_job}
use Rattle.pool_commands.proofs.HitLemmas.{all_at}

-- ---- jobs

-- the rows of the first jobs, and the next
pub rows-next : (queue : List QueuedJob) (i : ℕ) (row : JobRow) → option_map job_row (slice_get queue i) ≡ Some row
    → map job_row (take i queue) ++ row ∷ [] ≡ map job_row (take (suc i) queue)
rows-next [] i row is = absurd (none-some row is)
rows-next (job ∷ queue) zero row is = ap (λ (r : JobRow). r ∷ []) (sym (same_Some (job_row job) row is))
rows-next (job ∷ queue) (suc i) row is = ap (λ (rows : List JobRow). job_row job ∷ rows) (rows-next queue i row is)

state-seen : (stock : Stock) (standing : Stage) → state_in (named_standing stock standing) ≡ state_of standing
state-seen stock Stage.Idle = refl
state-seen stock (Stage.Matched slots) = refl
state-seen stock (Stage.Claimed slots) = refl

at-seen : {A : Type 0} (stock : Stock) (f : QueuedJob → A) (jobs : List Job) (i : ℕ) (job : Job) → slice_get jobs i ≡ Some job
    → option_map f (slice_get (map (queued stock) jobs) i) ≡ Some (f (queued stock job))
at-seen stock f [] i job at = absurd (none-some job at)
at-seen stock f (j ∷ jobs) zero job at = ap (λ (x : Job). Some (f (queued stock x))) (same_Some j job at)
at-seen stock f (j ∷ jobs) (suc i) job at = at-seen stock f jobs i job at

-- the part of a job that was read
part : {A : Type 0} (f : Job → A) (jobs : List Job) (i : ℕ) (job : Job) (x : A) → slice_get jobs i ≡ Some job → option_map f (slice_get jobs i) ≡ Some x
    → f job ≡ x
part f jobs i job x at is = same_Some (f job) x (sym (ap (option_map f) at) ∙ is)

-- a job at a place, of which a part was read
record At (jobs : List Job) (i : ℕ) : Type 0 where
  pub job : Job
  pub at : slice_get jobs i ≡ Some job

there : {A : Type 0} (f : Job → A) (jobs : List Job) (i : ℕ) (x : A) → option_map f (slice_get jobs i) ≡ Some x → At jobs i
there f jobs i x is = by (slice_get jobs i) refl is
  where
    by : (o : Option Job) → slice_get jobs i ≡ o → option_map f o ≡ Some x → At jobs i
    by None at is = absurd (none-some x is)
    by (Some job) at is = record { job = job; at = at }

module _ (jobs : List Job) (i : ℕ) (standing : Stage) (stands : option_map (λ (job : Job). job.standing) (slice_get jobs i) ≡ Some standing) where
  it : At jobs i
  it = there (λ (job : Job). job.standing) jobs i standing stands

  -- the slots of a job are in the store
  pub slots-held : (slots own : List ℕ) → are_stored slots jobs ≡ true → own ≡ slots_of standing → All (Contains slots) own
  slots-held slots own stored is =
      subst (λ (l : List ℕ). All (Contains slots) l) (sym (is ∙ ap slots_of (sym (part (λ (job : Job). job.standing) jobs i it.job standing it.at stands))))
      (all_at (λ (job : Job). All (Contains slots) (slots_of job.standing)) jobs i it.job (all-held slots jobs stored) it.at)

  -- the row of a job, from what was read of it
  pub row-is : (stock : Stock) (name user : List ℕ) (state : JobState) (own : List ℕ) (names : List (List ℕ))
      → option_map (λ (job : Job). job.name) (slice_get jobs i) ≡ Some name → option_map (λ (job : Job). job.user) (slice_get jobs i) ≡ Some user
      → state ≡ state_of standing → own ≡ slots_of standing → names ≡ map (name_in stock) own
      → option_map job_row (slice_get (map (queued stock) jobs) i) ≡ Some (record { job = name; user = user; state = state; names = names })
  row-is stock name user state own names called owner is_state is_own is_names =
      at-seen stock job_row jobs i it.job it.at
      ∙ (λ k. let row : JobRow = record { job = same_name k; user = same_user k; state = same_state k; names = same_names k } in Some row)
    where
      stood : it.job.standing ≡ standing
      stood = part (λ (job : Job). job.standing) jobs i it.job standing it.at stands

      same_name : it.job.name ≡ name
      same_name = part (λ (job : Job). job.name) jobs i it.job name it.at called

      same_user : it.job.user ≡ user
      same_user = part (λ (job : Job). job.user) jobs i it.job user it.at owner

      same_state : state_in (named_standing stock it.job.standing) ≡ state
      same_state = state-seen stock it.job.standing ∙ ap state_of stood ∙ sym is_state

      same_names : names_of (named_standing stock it.job.standing) ≡ names
      same_names = names-mapped stock it.job.standing ∙ ap (λ s. map (name_in stock) (slots_of s)) stood ∙ ap (map (name_in stock)) (sym is_own) ∙ sym is_names

-- ---- the ad of a job

pub show-unknown : (name : List ℕ) (queue : List QueuedJob) → job_named name queue ≡ None → show_job name queue ≡ reply.Refused why.UnknownName
show-unknown name queue none = ap (λ o. option_map_or (λ (job : QueuedJob). reply.Shown (printed_frame job.ad 0)) o (reply.Refused why.UnknownName)) none

pub show-known : (stock : Stock) (jobs : List Job) (name : List ℕ) (i : ℕ) (request : Request) (text : List ℕ) → numbered name jobs ≡ Some i
    → option_map (λ (job : Job). job.request) (slice_get jobs i) ≡ Some request → text ≡ printed_frame (ad_frames request.ad) 0
    → show_job name (map (queued stock) jobs) ≡ reply.Shown text
show-known stock jobs name i request text number requests is =
    ap (λ o. option_map_or (λ (job : QueuedJob). reply.Shown (printed_frame job.ad 0)) o (reply.Refused why.UnknownName)) found
    ∙ ap (λ (r : Request). reply.Shown (printed_frame (ad_frames r.ad) 0)) (part (λ (job : Job). job.request) jobs i it.job request it.at requests)
    ∙ ap (λ (t : List ℕ). reply.Shown t) (sym is)
  where
    it : At jobs i
    it = there (λ (job : Job). job.request) jobs i request requests

    found : job_named name (map (queued stock) jobs) ≡ Some (queued stock it.job)
    found =
        job-seen stock name jobs
        ∙ ap (option_map (queued stock)) (sym (found-first (is_named name) jobs) ∙ ap (option_and_then (λ k. slice_get jobs k)) number ∙ it.at)

-- ---- users

pub users-seen : (stock : Stock) (jobs : List Job) → map user_job (map (queued stock) jobs) ≡ map counted.user_job jobs
users-seen stock [] = refl
users-seen stock (job ∷ jobs) =
    let rest = users-seen stock jobs in
    let state = state-seen stock job.standing in
    (λ k. let one : counted.UserJob = record { user = job.user; state = state k } in one ∷ rest k)
