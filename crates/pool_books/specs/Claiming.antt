-- Claims in a state: what is offered to a job is checked anew, and only then the job has it.
use Rattle.std.specs.Prelude.{ℕ, suc, Bool, not, ◌&&◌, List, [], ◌∷◌, ◌++◌, find, fold, length, map, slice_index_or, sum_by, take, Option, None, Some}
use Rattle.std.specs.Prelude.{option_map, if◌then◌else◌}
use Rattle.std.specs.List.{list_any, range_with_len}
use Rattle.std.specs.Option.{option_map_or}
use Rattle.ad_store.specs.Stock.{Advert}
use Rattle.eval_scope.specs.World.{PlainWorld}
use Rattle.ad_eval.specs.Dock.{is_docked}
use Rattle.dock_match.specs.Docks.{is_last_decided}
use Rattle.dock_match.specs.Preemption.{is_yielded}
use Rattle.dock_match.specs.Pool.{regard_in}
use Rattle.claim_table.specs.declared.answers.JobState.{JobState}
use Rattle.claim_table.specs.Priorities.{Setting, priority_of}
use Rattle.pool_replies.specs.declared.reply.Reply.{Reply}
use Rattle.pool_replies.specs.declared.refusal.Refusal.TheVariants as why
use Rattle.pool_replies.specs.declared.reply.Reply.TheVariants as reply
use Rattle.pool_books.specs.Negotiation.{frames_named, held_by}
use Rattle.pool_books.specs.Ports.{ports_in}
use Rattle.pool_books.specs.Queue.{claim_names, claimed_by, is_job, is_listed, offer_names}
use Rattle.pool_books.specs.State.{JobStanding, QueuedJob, State, claimed, idle, matched}

-- the job of a name
abbrev pub job_named : List ℕ → List QueuedJob → Option QueuedJob
job_named name jobs = find (is_job name) jobs

-- ---- one resource of an offer

-- the world of the dock of the resource at a port: those before it are docked too
abbrev pub world_at : ℕ → List Advert → QueuedJob → List (List ℕ) → ℕ → PlainWorld
world_at moment ads job names port =
    record { moment = moment; request = job.ad; ports = ports_in job.ad; docked = map (frames_named ads) (take (suc port) names) }

-- the resource of a name, docked last, is yielded to the job, whose user has this number: it is unclaimed, it ranks its holder
-- strictly lower, or it ranks both alike and the holder's user has at least twice the number
abbrev pub is_won : ℕ → List Advert → List Setting → List QueuedJob → ℕ → List ℕ → PlainWorld → Bool
is_won moment ads settings jobs number name world = is_yielded number (regard_in world) (option_map (held_by moment ads settings name) (claimed_by name jobs))

-- it passes: its dock is true now, and the job wins it
abbrev pub passes : ℕ → List Advert → List Setting → List QueuedJob → ℕ → List ℕ → PlainWorld → Bool
passes moment ads settings jobs number name world = is_docked world && is_won moment ads settings jobs number name world

-- ---- an offer

-- the ports of an offer, from the first on
abbrev pub ports_of : List (List ℕ) → List ℕ
ports_of names = range_with_len 0 (length names)

-- the name of the resource for a port, empty where there is none
abbrev pub name_at : List (List ℕ) → ℕ → List ℕ
name_at names port = slice_index_or names port []

-- the first of the resources that doesn't pass, by the priorities as they are now
abbrev pub first_failing : State → QueuedJob → List (List ℕ) → Option (List ℕ)
first_failing s job names =
    option_map (name_at names)
    (find (λ port. not (passes s.moment s.ads s.priorities s.jobs (priority_of job.user s.priorities) (name_at names port)
    (world_at s.moment s.ads job names port))) (ports_of names))

-- ---- what a claim takes from others

-- the job holds one of the resources
abbrev pub holds_one : List (List ℕ) → QueuedJob → Bool
holds_one names job = list_any (λ name. is_listed name names) (claim_names job.standing)

-- the names with that of a job at the end, unless it is among them
abbrev pub once : List (List ℕ) → Option QueuedJob → List (List ℕ)
once losers None = losers
once losers (Some job) = if is_listed job.name losers then losers else losers ++ job.name ∷ []

-- the names of the jobs that hold one of the resources, each once, in the order of the resources
abbrev pub losers : List QueuedJob → List (List ℕ) → List (List ℕ)
losers jobs names = fold (λ sofar name. once sofar (claimed_by name jobs)) [] names

-- the jobs with another standing of the one of a name
abbrev pub restood : List ℕ → JobStanding → List QueuedJob → List QueuedJob
restood name standing jobs = map (λ (job : QueuedJob). if is_job name job then record job { standing = standing } else job) jobs

-- the jobs once those that hold one of the resources are idle, with all their resources free
abbrev pub without_holders : List (List ℕ) → List QueuedJob → List QueuedJob
without_holders names jobs = map (λ (job : QueuedJob). if holds_one names job then record job { standing = idle } else job) jobs

-- ---- the commands

-- a job claims what is offered to it, where all of it passes; else it is idle
abbrev pub checked : State → QueuedJob → List (List ℕ) → Option (List ℕ) → State × Reply
checked s job names (Some failing) = (record s { jobs = restood job.name idle s.jobs }, reply.Refused (why.Stale failing))
checked s job names None =
    (record s { jobs = restood job.name (claimed names) (without_holders names s.jobs) }, reply.Claimed job.name names (losers s.jobs names))

-- only a job that something is offered to can claim
abbrev pub claim_as : State → QueuedJob → JobStanding → State × Reply
claim_as s job idle = (s, reply.Refused (why.WrongState JobState.Idle))
claim_as s job (claimed names) = (s, reply.Refused (why.WrongState JobState.Claimed))
claim_as s job (matched names) = checked s job names (first_failing s job names)

-- `claim JOB`
abbrev pub claim : State → List ℕ → State × Reply
claim s name = option_map_or (λ job. claim_as s job job.standing) (job_named name s.jobs) (s, reply.Refused why.UnknownName)

-- a job gives back what is offered to it or what it has claimed
abbrev pub release_as : State → QueuedJob → JobStanding → State × Reply
release_as s job idle = (s, reply.Refused (why.WrongState JobState.Idle))
release_as s job other = (record s { jobs = restood job.name idle s.jobs }, reply.Released job.name)

-- `release JOB`
abbrev pub release : State → List ℕ → State × Reply
release s name = option_map_or (λ job. release_as s job job.standing) (job_named name s.jobs) (s, reply.Refused why.UnknownName)

-- ---- what a claim may count

-- how many docks of an offer literal attributes leave undecided
abbrev pub undecided_in : State → QueuedJob → List (List ℕ) → ℕ
undecided_in s job names = sum_by (λ port. if is_last_decided (world_at s.moment s.ads job names port) then 0 else 1) (ports_of names)

-- of the offer of the job of a name
abbrev pub undecided_for_claim : State → List ℕ → ℕ
undecided_for_claim s name = option_map_or (λ job. undecided_in s job (offer_names job.standing)) (job_named name s.jobs) 0

-- how many resources are offered to the job of a name
abbrev pub offered_for_claim : State → List ℕ → ℕ
offered_for_claim s name = option_map_or (λ job. length (offer_names job.standing)) (job_named name s.jobs) 0
