-- What the answers of the table say.
use Rattle.std.specs.Prelude.{◌≡◌, ℕ, List, ◌++◌, slice_get, remove, Option, None, Some, Result, Ok, Err, option_map}
use Rattle.std.specs.Option.{option_and_then, option_map_or, option_to_list}
use Rattle.claim_table.specs.declared.answers.Freed.{Freed}
use Rattle.claim_table.specs.declared.answers.JobFault.{JobFault}
use Rattle.claim_table.specs.declared.answers.JobState.{JobState}
use Rattle.claim_table.specs.declared.answers.NoJob.{NoJob}
use Rattle.claim_table.specs.declared.answers.SubmitFault.{SubmitFault}
use Rattle.claim_table.specs.declared.job.Job.{Job}
use Rattle.claim_table.specs.declared.job.Stage.{Stage}
use Rattle.claim_table.specs.Jobs.{claimed_by, job_named, offered_to, slots_of}

-- the fault is the refusal; memory is asked for only where there is none
abbrev pub IsCause : SubmitFault → Option SubmitFault → Type 0
IsCause SubmitFault.OutOfMemory refused = refused ≡ None
IsCause fault refused = refused ≡ Some fault

-- the one value of the answer that there is no job
abbrev pub no_job : NoJob
no_job = record {}

-- the list that a job gives back
abbrev pub given_back : Stage → Result (List ℕ) JobFault
given_back Stage.Idle = Err (JobFault.WrongState JobState.Idle)
given_back (Stage.Matched slots) = Ok slots
given_back (Stage.Claimed slots) = Ok slots

-- the answer of `release`
abbrev pub release_answer : List ℕ → List Job → Result (List ℕ) JobFault
release_answer name jobs = option_map_or (λ job. given_back job.standing) (job_named name jobs) (Err JobFault.NoJob)

-- the jobs without the one of a number
abbrev pub without_at : Option ℕ → List Job → List Job
without_at None jobs = jobs
without_at (Some i) jobs = remove jobs i

-- a job that lost its resources
abbrev pub freed_of : Job → Freed
freed_of job = record { job = job.name; user = job.user; slots = slots_of job.standing }

abbrev pub freed_at : Option ℕ → List Job → List Freed
freed_at number jobs = option_to_list (option_map freed_of (option_and_then (λ i. slice_get jobs i) number))

-- the jobs that lose their resources when one leaves: the one that had claimed it, then the one that it was offered to
abbrev pub freed_by : ℕ → List Job → List Freed
freed_by slot jobs = freed_at (claimed_by slot jobs) jobs ++ freed_at (offered_to slot jobs) jobs
