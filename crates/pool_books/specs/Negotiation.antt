-- Negotiation in a state: what its jobs find among its ads, and the cycle that offers it to them.
use Rattle.std.specs.Prelude.{ℕ, suc, Bool, ◌&&◌, false, true, List, [], ◌∷◌, count_by, filter, find, length, map, max, slice_get, slice_set, sum_by, take}
use Rattle.std.specs.Prelude.{Option, bytes_eq, is_none, is_some, option_map}
use Rattle.std.specs.List.{position_or_len}
use Rattle.std.specs.Option.{option_and_then, option_map_or}
use Rattle.ad_tree.specs.Frames.{Frame}
use Rattle.ad_tree.specs.declared.request.Port.{Port}
use Rattle.ad_store.specs.Stock.{Advert, is_named}
use Rattle.eval_scope.specs.World.{PlainWorld}
use Rattle.dock_match.specs.Pool.{Hold, Pool}
use Rattle.bilateral_match.specs.Members.{best}
use Rattle.gang_ports.specs.Gangs.{gang}
use Rattle.negotiator.specs.Budget.{looks_by, open_by}
use Rattle.negotiator.specs.Cycle.{Market, Offer, PlainSpin, PlainTurn, Waiting, cycle_of, offers_of}
use Rattle.claim_table.specs.Priorities.{Setting, priority_of}
use Rattle.pool_replies.specs.declared.reply.Reply.{Reply}
use Rattle.pool_replies.specs.declared.rows.OfferRow.{OfferRow}
use Rattle.pool_replies.specs.declared.rows.SpinRow.{SpinRow}
use Rattle.pool_replies.specs.declared.rows.TurnRow.{TurnRow}
use Rattle.pool_replies.specs.declared.reply.Reply.TheVariants as reply
use Rattle.pool_books.specs.Ports.{ports_in}
use Rattle.pool_books.specs.Queue.{claim_names, claimed_by, offered_to}
use Rattle.pool_books.specs.State.{JobStanding, QueuedJob, State, idle, matched}

-- ---- the resources of a state

-- the name of the ad at a place
abbrev pub name_at : List Advert → ℕ → List ℕ
name_at ads place = option_map_or (λ advert. advert.name) (slice_get ads place) []

-- the frames of the ad of a name
abbrev pub frames_named : List Advert → List ℕ → List Frame
frames_named ads name = option_map_or (λ advert. advert.ad) (find (is_named name) ads) []

-- the names up to this one, and with it
abbrev pub up_to : List ℕ → List (List ℕ) → List (List ℕ)
up_to name names = take (suc (position_or_len (bytes_eq name) names)) names

-- the world of the dock by which a job holds the resource of a name: those of its resources are docked that stand up to it
abbrev pub held_world : ℕ → List Advert → List ℕ → QueuedJob → PlainWorld
held_world moment ads name job =
    record { moment = moment; request = job.ad; ports = ports_in job.ad; docked = map (frames_named ads) (up_to name (claim_names job.standing)) }

-- how a job holds the resource of a name: that world, and the priority number of its user
abbrev pub held_by : ℕ → List Advert → List Setting → List ℕ → QueuedJob → Hold
held_by moment ads settings name job = record { world = held_world moment ads name job; number = priority_of job.user settings }

-- the resources, which of them are offered, and how they are held
abbrev pub pool_in : ℕ → List Advert → List Setting → List QueuedJob → Pool
pool_in moment ads settings jobs = record {
  moment = moment;
  ads = ads;
  is_offered = λ place. is_some (offered_to (name_at ads place) jobs);
  held_in = λ place. option_map (held_by moment ads settings (name_at ads place)) (claimed_by (name_at ads place) jobs);
}

-- a resource is free that is neither offered nor claimed
abbrev pub is_free : List QueuedJob → Advert → Bool
is_free jobs advert = is_none (offered_to advert.name jobs) && is_none (claimed_by advert.name jobs)

-- the places of what a request with these ports finds, for a user with this number: without ports the one that is best for it, else those of its gang
abbrev pub places_for : Pool → ℕ → List Frame → List Port → Option (List ℕ)
places_for pool number request [] = option_map (λ m. m.place ∷ []) (best pool request number)
places_for pool number request (port ∷ ports) = gang pool request (port ∷ ports)

-- what the job at a place finds, by its names
abbrev pub found : ℕ → List Advert → List Setting → List QueuedJob → ℕ → Option (List (List ℕ))
found moment ads settings jobs i =
    option_and_then (λ job. option_map (map (name_at ads))
    (places_for (pool_in moment ads settings jobs) (priority_of job.user settings) job.ad (ports_in job.ad))) (slice_get jobs i)

-- ---- offers

-- the jobs once resources are offered to the one at a place
abbrev pub matched_at : ℕ → List (List ℕ) → List QueuedJob → List QueuedJob
matched_at i names jobs = option_map_or (λ (job : QueuedJob). slice_set jobs i (record job { standing = matched names })) (slice_get jobs i) jobs

-- the jobs once some offers are made
abbrev pub with_offers : List (Offer (List ℕ)) → List QueuedJob → List QueuedJob
with_offers [] jobs = jobs
with_offers (offer ∷ offers) jobs = with_offers offers (matched_at offer.job offer.resources jobs)

-- ---- the cycle

-- the job is idle
abbrev pub is_idle : JobStanding → Bool
is_idle idle = true
is_idle other = false

-- a job as a cycle sees it: it wants a resource for each of its ports, or one
abbrev pub waiting : QueuedJob → Waiting
waiting job = record { user = job.user; wants = max 1 (length (ports_in job.ad)); is_idle = is_idle job.standing }

-- the market of a state
abbrev pub market_in : State → Market (List ℕ)
market_in s = record {
  jobs = map waiting s.jobs;
  find = λ made i. found s.moment s.ads s.priorities (with_offers made s.jobs) i;
  free = λ made. count_by (is_free (with_offers made s.jobs)) s.ads;
  priority = λ user. priority_of user s.priorities;
}

-- the row of an offer, with the name of its job
abbrev pub offer_row : List QueuedJob → Offer (List ℕ) → OfferRow
offer_row jobs offer = record { job = option_map_or (λ job. job.name) (slice_get jobs offer.job) []; names = offer.resources }

-- the row of a turn
abbrev pub turn_row : List QueuedJob → PlainTurn (List ℕ) → TurnRow
turn_row jobs turn = record { user = turn.user; slice = turn.slice; offers = map (offer_row jobs) turn.offers }

-- the row of a spin
abbrev pub spin_row : List QueuedJob → PlainSpin (List ℕ) → SpinRow
spin_row jobs spin = record { free = spin.free; turns = map (turn_row jobs) spin.turns }

-- `negotiate`
abbrev pub negotiate : State → State × Reply
negotiate s =
    let spins = cycle_of (market_in s) in
    (record s { jobs = with_offers (offers_of spins) s.jobs }, reply.Cycle (map (spin_row s.jobs) spins))

-- ---- what it may count

-- the sum over the jobs that are idle
abbrev pub over_idle : (QueuedJob → ℕ) → List QueuedJob → ℕ
over_idle price jobs = sum_by price (filter (λ job. is_idle job.standing) jobs)

-- how many docks of idle jobs literal attributes leave undecided, together
abbrev pub undecided_for_jobs : State → ℕ
undecided_for_jobs s = over_idle (λ job. open_by (pool_in s.moment s.ads s.priorities s.jobs) job.ad (ports_in job.ad)) s.jobs

-- how many ads the searches for the idle jobs may look into, together: nine times those that the narrowest test of a single job leaves, and
-- once for each port of a gang those that the narrowest test of the port leaves
abbrev pub looks_for_jobs : State → ℕ
looks_for_jobs s = over_idle (λ job. looks_by s.ads job.ad (ports_in job.ad)) s.jobs
