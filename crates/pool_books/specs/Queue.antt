-- The jobs of a state, and what is offered to them and claimed by them.
use Rattle.std.specs.Prelude.{ℕ, ◌+◌, Bool, nat_le, nat_lt, List, [], find, filter, length, map, not, sum_by, Option, None, Some, bytes_eq, if◌then◌else◌}
use Rattle.std.specs.List.{list_any}
use Rattle.claim_table.specs.Jobs.{jobs_limit, text_limit}
use Rattle.pool_replies.specs.declared.refusal.Refusal.{Refusal}
use Rattle.pool_replies.specs.declared.refusal.Refusal.TheVariants as why
use Rattle.pool_replies.specs.declared.refusal.Room.TheVariants as room
use Rattle.pool_books.specs.State.{JobStanding, QueuedJob, idle, matched, claimed}

-- ---- what a job was given

-- the names of the resources that are offered to a job
abbrev pub offer_names : JobStanding → List (List ℕ)
offer_names (matched names) = names
offer_names other = []

-- the names of the resources that a job has claimed
abbrev pub claim_names : JobStanding → List (List ℕ)
claim_names (claimed names) = names
claim_names other = []

-- the names of a job's resources, offered or claimed
abbrev pub names_of : JobStanding → List (List ℕ)
names_of idle = []
names_of (matched names) = names
names_of (claimed names) = names

-- the name is among these
abbrev pub is_listed : List ℕ → List (List ℕ) → Bool
is_listed name names = list_any (bytes_eq name) names

-- the job that the resource of a name is offered to
abbrev pub offered_to : List ℕ → List QueuedJob → Option QueuedJob
offered_to name jobs = find (λ job. is_listed name (offer_names job.standing)) jobs

-- the job that has claimed the resource of a name
abbrev pub claimed_by : List ℕ → List QueuedJob → Option QueuedJob
claimed_by name jobs = find (λ job. is_listed name (claim_names job.standing)) jobs

-- ---- resources that leave

-- the jobs when resources leave: each job that was given one of them is idle, and all its resources are free
abbrev pub without_resources : (List ℕ → Bool) → List QueuedJob → List QueuedJob
without_resources leaves jobs = map (λ (job : QueuedJob). if list_any leaves (names_of job.standing) then record job { standing = idle } else job) jobs

-- ---- jobs by name

-- the job has this name
abbrev pub is_job : List ℕ → QueuedJob → Bool
is_job name job = bytes_eq name job.name

-- some job has this name
abbrev pub has_job : List ℕ → List QueuedJob → Bool
has_job name jobs = list_any (is_job name) jobs

-- the jobs without the one of a name
abbrev pub without_job : List ℕ → List QueuedJob → List QueuedJob
without_job name jobs = filter (λ job. not (is_job name job)) jobs

-- ---- limits

-- the length of the texts of all jobs together, in bytes
abbrev pub job_text : List QueuedJob → ℕ
job_text jobs = sum_by (λ job. job.size) jobs

-- why a job of this name, with a text of so many bytes, is not taken: first its name, then its place, then its text
abbrev pub job_refusal : List ℕ → ℕ → List QueuedJob → Option Refusal
job_refusal name size jobs =
    if has_job name jobs then Some why.NameInUse
    else if nat_le jobs_limit (length jobs) then Some (why.Full room.Jobs)
    else if nat_lt text_limit (job_text jobs + size) then Some (why.Full room.JobText)
    else None
