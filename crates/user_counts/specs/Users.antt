-- The users of a queue in order, and how many jobs each has.
use Rattle.std.specs.Prelude.{ℕ, Bool, true, false, ◌&&◌, List, [], ◌++◌, bytes_eq, count_by, fold, map}
use Rattle.std.specs.BTreeSet.{insert_key}
use Rattle.claim_table.specs.Jobs.{state_of}
use Rattle.claim_table.specs.Priorities.{Setting, priority_of, user_order}
use Rattle.claim_table.specs.declared.answers.JobState.{JobState}
use Rattle.claim_table.specs.declared.job.Job.{Job}
use Rattle.pool_replies.specs.declared.rows.JobCounts.{JobCounts}
use Rattle.pool_replies.specs.declared.rows.UserRow.{UserRow}

-- whose a job is, and its state
pub record UserJob : Type 0 where
  pub user : List ℕ
  pub state : JobState

-- whose a job of the table is, and its state
abbrev pub user_job : Job → UserJob
user_job job = record { user = job.user; state = state_of job.standing }

-- the state idle
abbrev pub is_idle : JobState → Bool
is_idle JobState.Idle = true
is_idle state = false

-- the state matched
abbrev pub is_matched : JobState → Bool
is_matched JobState.Matched = true
is_matched state = false

-- the state claimed
abbrev pub is_claimed : JobState → Bool
is_claimed JobState.Claimed = true
is_claimed state = false

-- how many jobs are the user's and in a state that passes
abbrev pub count_of : (JobState → Bool) → List UserJob → List ℕ → ℕ
count_of passes jobs user = count_by (λ job. bytes_eq user job.user && passes job.state) jobs

-- how many jobs of the user are in each state
abbrev pub counts_of : List UserJob → List ℕ → JobCounts
counts_of jobs user = record { idle = count_of is_idle jobs user; matched = count_of is_matched jobs user; claimed = count_of is_claimed jobs user }

-- the users whose priority is set
abbrev pub set_names : List Setting → List (List ℕ)
set_names settings = map (λ setting. setting.user) settings

-- and those of the jobs, so often as they have one
abbrev pub user_names : List Setting → List UserJob → List (List ℕ)
user_names settings jobs = set_names settings ++ map (λ job. job.user) jobs

-- users each once, by priority and then by name
abbrev pub in_order : List Setting → List (List ℕ) → List (List ℕ)
in_order settings users = fold (insert_key (user_order (λ user. priority_of user settings))) [] users

-- a user with the priority and the numbers of jobs
abbrev pub user_row : List Setting → List UserJob → List ℕ → UserRow
user_row settings jobs user = record { user = user; priority = priority_of user settings; counts = counts_of jobs user }

-- a row for each user who has a job or a priority that is set
abbrev pub user_rows : List Setting → List UserJob → List UserRow
user_rows settings jobs = map (user_row settings jobs) (in_order settings (user_names settings jobs))
