-- The texts of the jobs and of the users.
use Rattle.std.specs.Prelude.{ℕ, List, ◌++◌, codes, decimal, length}
use Rattle.std.specs.List.{flat_map}
use Rattle.claim_table.specs.declared.answers.JobState.{JobState}
use Rattle.pool_replies.specs.declared.rows.JobCounts.{JobCounts}
use Rattle.pool_replies.specs.declared.rows.JobRow.{JobRow}
use Rattle.pool_replies.specs.declared.rows.UserRow.{UserRow}
use Rattle.pool_replies.specs.Cycles.{with_blanks}

-- a state, with a blank before it
abbrev pub state_word : JobState → List ℕ
state_word JobState.Idle = codes " idle"
state_word JobState.Matched = codes " matched"
state_word JobState.Claimed = codes " claimed"

-- `JOB USER STATE` and the names of the resources
abbrev pub job_line : JobRow → List ℕ
job_line row = row.job ++ codes " " ++ row.user ++ state_word row.state ++ with_blanks row.names ++ codes "\n"

-- `jobs K` and a line for each job
abbrev pub jobs_text : List JobRow → List ℕ
jobs_text rows = codes "jobs " ++ decimal (length rows) ++ codes "\n" ++ flat_map job_line rows

-- ` idle I matched M claimed C`
abbrev pub counts_text : JobCounts → List ℕ
counts_text counts =
    codes " idle " ++ decimal counts.idle ++ codes " matched " ++ decimal counts.matched ++ codes " claimed " ++ decimal counts.claimed ++ codes "\n"

-- `USER PRIORITY` and the numbers of jobs
abbrev pub user_line : UserRow → List ℕ
user_line row = row.user ++ codes " " ++ decimal row.priority ++ counts_text row.counts

-- `users K` and a line for each user
abbrev pub users_text : List UserRow → List ℕ
users_text rows = codes "users " ++ decimal (length rows) ++ codes "\n" ++ flat_map user_line rows
