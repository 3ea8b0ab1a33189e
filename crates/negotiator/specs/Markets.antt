-- The market of a pool: its jobs, and the resources of a store by their slots.
use Rattle.std.specs.Prelude.{◌≡◌, ℕ, Bool, true, false, List, [], ◌∷◌, ◌++◌, map, slice_get, Option, Some, option_and_then, option_map}
use Rattle.std.specs.Option.{option_map_or}
use Rattle.ad_tree.specs.Ad.{ad_frames}
use Rattle.ad_tree.specs.Frames.{Frame}
use Rattle.ad_tree.specs.declared.request.Port.{Port}
use Rattle.ad_tree.specs.declared.request.Request.{Request}
use Rattle.ad_store.specs.Stock.{Stock}
use Rattle.dock_match.specs.Pool.{Pool, slot_at}
use Rattle.bilateral_match.specs.Members.{best_slot}
use Rattle.claim_table.specs.declared.job.Job.{Job}
use Rattle.claim_table.specs.declared.job.Stage.{Stage}
use Rattle.claim_table.specs.Jobs.{wanted, with_standing}
use Rattle.gang_ports.specs.Gangs.{gang}
use Rattle.gang_ports.specs.Ports.{ports_of}
use Rattle.job_clusters.specs.Pools.{free_among, pool_for}
use Rattle.negotiator.specs.declared.answers.Offered.{Offered}
use Rattle.negotiator.specs.declared.answers.Spin.{Spin}
use Rattle.negotiator.specs.declared.answers.Turn.{Turn}
use Rattle.negotiator.specs.Cycle.{Market, Offer, PlainSpin, PlainTurn, Waiting}
use Rattle.claim_table.specs.Priorities.{Setting, priority_of}

-- ---- jobs

abbrev pub is_idle : Stage → Bool
is_idle Stage.Idle = true
is_idle other = false

abbrev pub waiting_of : Job → Waiting
waiting_of job = record { user = job.user; wants = wanted job.request; is_idle = is_idle job.standing }

-- the ports are none, or those that the ad of these frames lists
abbrev pub AreOwn : List Frame → List Port → Type 0
AreOwn frames [] = Unit {0}
AreOwn frames (port ∷ ports) = ports_of frames ≡ Some (port ∷ ports)

-- the jobs once offers are made: each stands as matched
abbrev pub with_offers : List (Offer ℕ) → List Job → List Job
with_offers [] jobs = jobs
with_offers (offer ∷ offers) jobs = with_offers offers (with_standing jobs offer.job (Stage.Matched offer.resources))

-- these jobs are the others once some first of the offers are made
pub record IsPart (offers : List (Offer ℕ)) (jobs later : List Job) : Type 0 where
  pub front : List (Offer ℕ)
  pub rest : List (Offer ℕ)
  pub all : offers ≡ front ++ rest
  pub made : later ≡ with_offers front jobs

-- ---- the market

-- without ports a request finds the one resource that is best for it and for its user's number, and with ports its gang
abbrev pub found_by : Stock → Pool → ℕ → List Frame → List Port → Option (List ℕ)
found_by stock pool number request [] = option_map (λ slot. slot ∷ []) (best_slot stock pool request number)
found_by stock pool number request (port ∷ ports) = option_map (map (slot_at stock)) (gang pool request (port ∷ ports))

abbrev pub found_for : ℕ → Stock → List Setting → List Job → ℕ → Request → Option (List ℕ)
found_for moment stock settings jobs number request = found_by stock (pool_for moment stock settings jobs) number (ad_frames request.ad) request.ports

abbrev pub found : ℕ → Stock → List Setting → List Job → ℕ → Option (List ℕ)
found moment stock settings jobs i =
    option_and_then (λ job. found_for moment stock settings jobs (priority_of job.user settings) job.request) (slice_get jobs i)

abbrev pub market_of : ℕ → Stock → List Setting → List Job → Market ℕ
market_of moment stock settings jobs = record {
  jobs = map waiting_of jobs;
  find = λ made i. found moment stock settings (with_offers made jobs) i;
  free = λ made. free_among stock (with_offers made jobs);
  priority = λ user. priority_of user settings;
}

-- ---- as it is answered

-- the name of the job at a place
abbrev pub name_at : List Job → ℕ → List ℕ
name_at jobs i = option_map_or (λ job. job.name) (slice_get jobs i) []

abbrev pub offer_named : List Job → Offer ℕ → Offered
offer_named jobs offer = record { job = name_at jobs offer.job; slots = offer.resources }

abbrev pub turn_named : List Job → PlainTurn ℕ → Turn
turn_named jobs turn = record { user = turn.user; slice = turn.slice; offers = map (offer_named jobs) turn.offers }

abbrev pub spin_named : List Job → PlainSpin ℕ → Spin
spin_named jobs spin = record { free = spin.free; turns = map (turn_named jobs) spin.turns }
