-- What contracts see of the jobs in order.
use Rattle.std.specs.Prelude.{ℕ, List}
use Rattle.claim_table.specs.declared.job.Job.{Job}
use Rattle.claim_table.specs.declared.job_list.JobList.{JobList}
use Rattle.claim_table.specs.Listed.{jobs_at}

-- the jobs in the order of their submission
abbrev pub jobs_in : JobList → List Job
jobs_in list = jobs_at list.table list.order

-- their slots
abbrev pub slots_in : JobList → List ℕ
slots_in list = list.order
