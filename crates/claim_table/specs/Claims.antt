-- A claim: the resources that are offered to a job are checked anew, one after another, before the job has them.
use Rattle.std.specs.Prelude.{◌≡◌, ℕ, suc, ◌+◌, ◌*◌, Bool, not, ◌&&◌, List, [], ◌∷◌, ◌++◌, find, flat_map, fold, length}
use Rattle.std.specs.Prelude.{slice_get, slice_index, sum_by, take, Option, None, Some, option_map, Result, Ok, Err, if◌then◌else◌}
use Rattle.std.specs.List.{range_with_len}
use Rattle.std.specs.Option.{option_map_or}
use Rattle.ad_tree.specs.declared.request.Request.{Request}
use Rattle.ad_store.specs.Stock.{Stock}
use Rattle.eval_scope.specs.World.{PlainWorld, attribute_count}
use Rattle.ad_eval.specs.Dock.{is_docked}
use Rattle.dock_match.specs.Docks.{is_last_decided}
use Rattle.dock_match.specs.Preemption.{is_yielded}
use Rattle.dock_match.specs.Pool.{hold_of, holder_world, regard_in, slots_world}
use Rattle.claim_table.specs.declared.answers.ClaimFault.{ClaimFault}
use Rattle.claim_table.specs.declared.answers.Freed.{Freed}
use Rattle.claim_table.specs.declared.answers.JobState.{JobState}
use Rattle.claim_table.specs.declared.job.Job.{Job}
use Rattle.claim_table.specs.declared.job.Stage.{Stage}
use Rattle.claim_table.specs.Answers.{freed_at}
use Rattle.claim_table.specs.Holders.{holder_of}
use Rattle.claim_table.specs.Jobs.{claimed_by, idle_at, job_named, lists, numbered, offer_of, with_standing}
use Rattle.claim_table.specs.Priorities.{Setting, priority_of}

-- ---- one resource of an offer

-- the world of the dock of the resource at a port: those before it are docked too
abbrev pub world_at : ℕ → Stock → Request → List ℕ → ℕ → PlainWorld
world_at moment stock request slots port = slots_world moment stock request (take (suc port) slots)

-- the resource in a slot, docked last, is yielded to the job, whose user has this number: it is unclaimed, it ranks its holder
-- strictly lower, or it ranks both alike and the holder's user has at least twice the number
abbrev pub is_won : ℕ → Stock → List Setting → List Job → ℕ → ℕ → PlainWorld → Bool
is_won moment stock settings jobs number slot world = is_yielded number (regard_in world) (option_map (hold_of moment stock) (holder_of settings jobs slot))

-- the resource passes: its dock is true now, and the job wins it
abbrev pub passes : ℕ → Stock → List Setting → List Job → ℕ → ℕ → PlainWorld → Bool
passes moment stock settings jobs number slot world = is_docked world && is_won moment stock settings jobs number slot world

-- ---- an offer

-- the ports of an offer, from the first on
abbrev pub ports_of : List ℕ → List ℕ
ports_of slots = range_with_len 0 (length slots)

-- the first of the resources that doesn't pass
abbrev pub first_failing : ℕ → Stock → List Setting → List Job → ℕ → Request → List ℕ → Option ℕ
first_failing moment stock settings jobs number request slots =
    option_map (slice_index slots)
    (find (λ port. not (passes moment stock settings jobs number (slice_index slots port) (world_at moment stock request slots port))) (ports_of slots))

-- ---- what a claim takes from others

-- the numbers with one more at the end, unless it is among them
abbrev pub once : List ℕ → Option ℕ → List ℕ
once numbers None = numbers
once numbers (Some i) = if lists numbers i then numbers else numbers ++ i ∷ []

-- the numbers of the jobs that have claimed one of the slots, each once, in the order of the slots
abbrev pub losers : List Job → List ℕ → List ℕ
losers jobs slots = fold (λ numbers slot. once numbers (claimed_by slot jobs)) [] slots

-- the jobs with those of these numbers made idle
abbrev pub all_idle : List Job → List ℕ → List Job
all_idle jobs numbers = fold (λ js i. idle_at (Some i) js) jobs numbers

-- the jobs once the one of a number has claimed these slots: those that held one of them are idle
abbrev pub granted : List Job → ℕ → List ℕ → List Job
granted jobs i slots = with_standing (all_idle jobs (losers jobs slots)) i (Stage.Claimed slots)

-- the jobs of these numbers, with the slots that they had
abbrev pub freed_all : List Job → List ℕ → List Freed
freed_all jobs numbers = flat_map (λ i. freed_at (Some i) jobs) numbers

-- ---- the claim

-- an answer, and the jobs behind it
abbrev pub Claimed : Type 0
Claimed = Result (List Freed) ClaimFault × List Job

-- the job at place i claims the slots that are offered to it, by the priorities as they are now
abbrev pub checked : ℕ → Stock → List Setting → List Job → ℕ → Job → List ℕ → Claimed
checked moment stock settings jobs i job slots =
    option_map_or (λ slot. (Err (ClaimFault.Stale slot), with_standing jobs i Stage.Idle))
    (first_failing moment stock settings jobs (priority_of job.user settings) job.request slots)
    (Ok (freed_all jobs (losers jobs slots)), granted jobs i slots)

-- only a job that something is offered to can claim
abbrev pub claimed_at : ℕ → Stock → List Setting → List Job → ℕ → Job → Claimed
claimed_at moment stock settings jobs i job = by job.standing
  where
    by : Stage → Claimed
    by Stage.Idle = (Err (ClaimFault.WrongState JobState.Idle), jobs)
    by (Stage.Claimed slots) = (Err (ClaimFault.WrongState JobState.Claimed), jobs)
    by (Stage.Matched slots) = checked moment stock settings jobs i job slots

-- the job of a name claims what is offered to it
abbrev pub claimed : ℕ → Stock → List Setting → List ℕ → List Job → Claimed
claimed moment stock settings name jobs =
    option_map_or (λ i. option_map_or (claimed_at moment stock settings jobs i) (slice_get jobs i) (Err ClaimFault.NoJob, jobs))
    (numbered name jobs)
    (Err ClaimFault.NoJob, jobs)

-- a call answers so; after want of memory the jobs are as they were
abbrev pub IsClaimed : Result (List Freed) ClaimFault → List Job → List Job → Claimed → Type 0
IsClaimed (Err ClaimFault.OutOfMemory) old new claim = new ≡ old
IsClaimed answer old new claim = claim ≡ (answer, new)

-- ---- what a claim may count

-- what is offered to the job of a number
abbrev pub offer_at : ℕ → List Job → List ℕ
offer_at i jobs = option_map_or (λ job. offer_of job.standing) (slice_get jobs i) []

-- what is offered to the job of a name
abbrev pub offer_named : List ℕ → List Job → List ℕ
offer_named name jobs = option_map_or (λ job. offer_of job.standing) (job_named name jobs) []

-- what the docks of an offer give together
abbrev pub sum_over : (ℕ → PlainWorld → ℕ) → ℕ → Stock → Job → ℕ
sum_over gives moment stock job =
    sum_by (λ port. gives (slice_index (offer_of job.standing) port) (world_at moment stock job.request (offer_of job.standing) port))
    (ports_of (offer_of job.standing))

-- how many docks of the offer of the job of a name literal attributes leave undecided
abbrev pub undecided_for : ℕ → Stock → List ℕ → List Job → ℕ
undecided_for moment stock name jobs = option_map_or (sum_over (λ slot world. if is_last_decided world then 0 else 1) moment stock) (job_named name jobs) 0

-- how many attributes may be entered: three evaluations in an undecided dock, and one in that by which the resource is held
abbrev pub entered_in : ℕ → Stock → List Setting → List Job → ℕ → PlainWorld → ℕ
entered_in moment stock settings jobs slot world = if is_last_decided world then 0
    else 3 * attribute_count world + option_map_or (λ holding. attribute_count (holder_world moment stock holding)) (holder_of settings jobs slot) 0

abbrev pub entered_for : ℕ → Stock → List Setting → List ℕ → List Job → ℕ
entered_for moment stock settings name jobs = option_map_or (sum_over (entered_in moment stock settings jobs) moment stock) (job_named name jobs) 0
