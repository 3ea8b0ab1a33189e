-- The jobs in the order of their submission, and the rules for them.
use Rattle.std.specs.Prelude.{◌≡◌, ◌≢◌, ℕ, ◌+◌, All, AllPairs, Bool, true, ◌==◌, nat_le, nat_lt, List, [], length, max, position}
use Rattle.std.specs.Prelude.{slice_get, slice_set, sum_by, Option, None, Some, bytes_eq, if◌then◌else◌}
use Rattle.std.specs.List.{list_any}
use Rattle.std.specs.Option.{option_and_then, option_map_or}
use Rattle.ad_tree.specs.declared.request.Request.{Request}
use Rattle.claim_table.specs.declared.answers.JobState.{JobState}
use Rattle.claim_table.specs.declared.answers.SubmitFault.{SubmitFault}
use Rattle.claim_table.specs.declared.job.Job.{Job}
use Rattle.claim_table.specs.declared.job.Stage.{Stage}

-- ---- how a job stands

-- the slots that are offered to a job
abbrev pub offer_of : Stage → List ℕ
offer_of (Stage.Matched slots) = slots
offer_of other = []

-- the slots that a job has claimed
abbrev pub claim_of : Stage → List ℕ
claim_of (Stage.Claimed slots) = slots
claim_of other = []

-- the slots of a job, offered or claimed
abbrev pub slots_of : Stage → List ℕ
slots_of (Stage.Matched slots) = slots
slots_of (Stage.Claimed slots) = slots
slots_of Stage.Idle = []

-- the state of a job that stands so
abbrev pub state_of : Stage → JobState
state_of Stage.Idle = JobState.Idle
state_of (Stage.Matched slots) = JobState.Matched
state_of (Stage.Claimed slots) = JobState.Claimed

-- how many resources a request wants: one for each port, or one where it has none
abbrev pub wanted : Request → ℕ
wanted request = max 1 (length request.ports)

-- a job lists no resource twice, and has as many as it wants unless it is idle
pub record IsFilled (job : Job) : Type 0 where
  pub distinct : AllPairs (λ a b. a ≢ b) (slots_of job.standing)
  pub enough : job.standing ≢ Stage.Idle → length (slots_of job.standing) ≡ wanted job.request

-- ---- who lists a slot

-- the slot is among these
abbrev pub lists : List ℕ → ℕ → Bool
lists slots slot = list_any (λ s. s == slot) slots

-- the number of the job that the slot is offered to
abbrev pub offered_to : ℕ → List Job → Option ℕ
offered_to slot jobs = position (λ job. lists (offer_of job.standing) slot) jobs

-- the number of the job that has claimed the slot
abbrev pub claimed_by : ℕ → List Job → Option ℕ
claimed_by slot jobs = position (λ job. lists (claim_of job.standing) slot) jobs

-- no two jobs list one slot in this part of their standings
abbrev pub AreExclusive : (Stage → List ℕ) → List Job → Type 0
AreExclusive part jobs =
    (slot i j : ℕ) (a b : Job) → slice_get jobs i ≡ Some a → slice_get jobs j ≡ Some b → lists (part a.standing) slot ≡ true
    → lists (part b.standing) slot ≡ true → i ≡ j

-- none of the slots is offered to a job
abbrev pub AreFree : List ℕ → List Job → Type 0
AreFree slots jobs = All (λ slot. offered_to slot jobs ≡ None) slots

-- ---- by name

-- the job has this name
abbrev pub is_named : List ℕ → Job → Bool
is_named name job = bytes_eq name job.name

-- the number of the job of this name
abbrev pub numbered : List ℕ → List Job → Option ℕ
numbered name jobs = position (is_named name) jobs

-- the job of this name
abbrev pub job_named : List ℕ → List Job → Option Job
job_named name jobs = option_and_then (λ i. slice_get jobs i) (numbered name jobs)

-- the job of each job's name is that job, so no two have one name
abbrev pub AreNamedApart : List Job → Type 0
AreNamedApart jobs = (i : ℕ) (job : Job) → slice_get jobs i ≡ Some job → numbered job.name jobs ≡ Some i

-- ---- changes

-- the jobs with another standing at a number
abbrev pub with_standing : List Job → ℕ → Stage → List Job
with_standing jobs i standing = option_map_or (λ job. slice_set jobs i (record job { standing = standing })) (slice_get jobs i) jobs

-- the jobs with the one of a number made idle
abbrev pub idle_at : Option ℕ → List Job → List Job
idle_at None jobs = jobs
idle_at (Some i) jobs = with_standing jobs i Stage.Idle

-- the jobs when a resource has left: the one that had claimed it and the one that it was offered to are idle
abbrev pub lost : ℕ → List Job → List Job
lost slot jobs = idle_at (offered_to slot jobs) (idle_at (claimed_by slot jobs) jobs)

-- ---- limits

-- the greatest number of jobs
abbrev pub jobs_limit : ℕ
jobs_limit = 10000

-- the greatest length of the texts of all jobs together, in bytes
abbrev pub text_limit : ℕ
text_limit = 33554432

-- the length of the texts of all jobs together, in bytes
abbrev pub text_of : List Job → ℕ
text_of jobs = sum_by (λ job. job.text_len) jobs

-- why a job of this name with a text of so many bytes is not taken: first its name, then its place, then its text
abbrev pub refusal : List ℕ → ℕ → List Job → Option SubmitFault
refusal name size jobs =
    if list_any (is_named name) jobs then Some SubmitFault.InUse
    else if nat_le jobs_limit (length jobs) then Some SubmitFault.Full
    else if nat_lt text_limit (text_of jobs + size) then Some SubmitFault.FullText
    else None
