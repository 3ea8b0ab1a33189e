-- What the commands on jobs and priorities make of the state, and their replies.
use Rattle.std.specs.Prelude.{ℕ, List, [], ◌∷◌, ◌++◌, Option, None, Some, Result, Ok, Err, if◌then◌else◌}
use Rattle.ad_tree.specs.Inline.{Inline, ad_of}
use Rattle.ad_parser.specs.declared.fault.ParseFault.{ParseFault}
use Rattle.pool_replies.specs.declared.refusal.Refusal.{Refusal}
use Rattle.pool_replies.specs.declared.reply.Reply.{Reply}
use Rattle.claim_table.specs.Priorities.{lacks_place, with_setting}
use Rattle.pool_replies.specs.declared.refusal.Refusal.TheVariants as why
use Rattle.pool_replies.specs.declared.refusal.Room.TheVariants as room
use Rattle.pool_replies.specs.declared.reply.Reply.TheVariants as reply
use Rattle.pool_books.specs.Ports.{has_bad_ports}
use Rattle.pool_books.specs.Queue.{has_job, job_refusal, without_job}
use Rattle.pool_books.specs.State.{QueuedJob, State, idle, refused}

-- a job is taken, unless something speaks against it, or its ports are bad
abbrev pub take_job : State → QueuedJob → Option Refusal → State × Reply
take_job s job (Some reason) = refused s reason
take_job s job None = if has_bad_ports job.ad then refused s why.BadPorts else (record s { jobs = s.jobs ++ job ∷ [] }, reply.Submitted job.name)

-- `submit JOB USER` and a block of so many bytes, by what its text is
abbrev pub submit : State → List ℕ → List ℕ → ℕ → Result Inline ParseFault → State × Reply
submit s name user size (Err fault) = refused s (why.AdText fault)
submit s name user size (Ok x) = take_job s (record { name = name; user = user; size = size; ad = ad_of x; standing = idle }) (job_refusal name size s.jobs)

-- `remove JOB`
abbrev pub remove : State → List ℕ → State × Reply
remove s name = if has_job name s.jobs then (record s { jobs = without_job name s.jobs }, reply.Removed name) else refused s why.UnknownName

-- `priority USER N`
abbrev pub set_priority : State → List ℕ → ℕ → State × Reply
set_priority s user n =
    if lacks_place user s.priorities then refused s (why.Full room.Users)
    else (record s { priorities = with_setting (record { user = user; number = n }) s.priorities }, reply.Priority user n)
