-- What is told of the jobs of a state and of its users.
use Rattle.std.specs.Prelude.{ℕ, List, map}
use Rattle.std.specs.Option.{option_map_or}
use Rattle.ad_printer.specs.Values.{printed_frame}
use Rattle.claim_table.specs.Priorities.{Setting}
use Rattle.claim_table.specs.declared.answers.JobState.{JobState}
use Rattle.pool_replies.specs.declared.reply.Reply.{Reply}
use Rattle.pool_replies.specs.declared.rows.JobRow.{JobRow}
use Rattle.user_counts.specs.Users.{UserJob, user_rows}
use Rattle.pool_replies.specs.declared.refusal.Refusal.TheVariants as why
use Rattle.pool_replies.specs.declared.reply.Reply.TheVariants as reply
use Rattle.pool_books.specs.Claiming.{job_named}
use Rattle.pool_books.specs.Queue.{names_of}
use Rattle.pool_books.specs.State.{JobStanding, QueuedJob, claimed, idle, matched}

-- the state of a job that stands so
abbrev pub state_in : JobStanding → JobState
state_in idle = JobState.Idle
state_in (matched names) = JobState.Matched
state_in (claimed names) = JobState.Claimed

-- the row of a job: its state, and its resources in the order of its ports
abbrev pub job_row : QueuedJob → JobRow
job_row job = record { job = job.name; user = job.user; state = state_in job.standing; names = names_of job.standing }

-- `jobs`: in the order of their submission
abbrev pub jobs : List QueuedJob → Reply
jobs queue = reply.Jobs (map job_row queue)

-- `job JOB`: its ad is printed
abbrev pub show_job : List ℕ → List QueuedJob → Reply
show_job name queue = option_map_or (λ job. reply.Shown (printed_frame job.ad 0)) (job_named name queue) (reply.Refused why.UnknownName)

-- whose a job is, and its state
abbrev pub user_job : QueuedJob → UserJob
user_job job = record { user = job.user; state = state_in job.standing }

-- `users`: those who have a job or a priority that is set, with the numbers of their jobs
abbrev pub users : List Setting → List QueuedJob → Reply
users settings queue = reply.Users (user_rows settings (map user_job queue))
