-- What contracts see of the table.
use Rattle.std.specs.Prelude.{List}
use Rattle.claim_table.specs.declared.job.Job.{Job}
use Rattle.claim_table.specs.JobList.{jobs_in}
use Rattle.claim_table.specs.declared.table.ClaimTable.{ClaimTable}

-- the jobs in the order of their submission
abbrev pub jobs_of : ClaimTable → List Job
jobs_of table = jobs_in table.jobs
