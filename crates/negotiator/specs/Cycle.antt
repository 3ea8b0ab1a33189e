-- A cycle of negotiation: the users take turns by priority, in spins, until a spin makes no offer.
use Rattle.std.specs.Prelude.{ℕ, zero, suc, ◌-◌, Bool, true, false, not, ◌&&◌, ◌==◌, nat_lt, List, [], ◌∷◌, ◌++◌, filter, flat_map}
use Rattle.std.specs.Prelude.{fold, length, map, count_by, slice_get, Option, bytes_eq, if◌then◌else◌}
use Rattle.std.specs.BTreeSet.{insert_key}
use Rattle.std.specs.List.{list_any, range_with_len}
use Rattle.std.specs.Option.{option_map_or}
use Rattle.claim_table.specs.Priorities.{user_order}
use Rattle.pie_slices.specs.Slices.{slices_of, weight_of}

-- ---- what a cycle is about

-- a job as the cycle begins: whose it is, how many resources it wants, and whether it is idle
pub record Waiting : Type 0 where
  pub user : List ℕ
  pub wants : ℕ
  pub is_idle : Bool

-- resources for the job at a place in the order of submission
pub record Offer (R : Type 0) : Type 0 where
  pub job : ℕ
  pub resources : List R

-- the jobs in the order of their submission; what the job at a place finds, and how many resources are free, once some offers are
-- made; and the users' priorities
pub record Market (R : Type 0) : Type 0 where
  pub jobs : List Waiting
  pub find : List (Offer R) → ℕ → Option (List R)
  pub free : List (Offer R) → ℕ
  pub priority : List ℕ → ℕ

-- a user's turn in a spin, with the user's slice of what is free
pub record PlainTurn (R : Type 0) : Type 0 where
  pub user : List ℕ
  pub slice : ℕ
  pub offers : List (Offer R)

-- a spin, with how many resources are free as it begins
pub record PlainSpin (R : Type 0) : Type 0 where
  pub free : ℕ
  pub turns : List (PlainTurn R)

-- the places of all jobs, in the order of their submission
abbrev pub places : List Waiting → List ℕ
places jobs = range_with_len 0 (length jobs)

-- the list has no elements
abbrev pub is_empty : {A : Type 0} → List A → Bool
is_empty [] = true
is_empty (x ∷ xs) = false

module _ {R : Type 0} where
  -- one of these offers is to the job at a place
  abbrev pub is_given : List (Offer R) → ℕ → Bool
  is_given made i = list_any (λ offer. offer.job == i) made

  -- the offers of turns, in order
  abbrev pub offers_in : List (PlainTurn R) → List (Offer R)
  offers_in turns = flat_map (λ turn. turn.offers) turns

  -- the offers of spins, in order
  abbrev pub offers_of : List (PlainSpin R) → List (Offer R)
  offers_of spins = flat_map (λ spin. offers_in spin.turns) spins

  -- the turn makes an offer
  abbrev pub has_offer : PlainTurn R → Bool
  has_offer turn = not (is_empty turn.offers)

-- ---- the rules

module _ {R : Type 0} (market : Market R) where
  -- the job at a place is idle as the cycle begins, and is given nothing by these offers
  abbrev pub is_waiting : List (Offer R) → ℕ → Bool
  is_waiting made i = option_map_or (λ job. job.is_idle) (slice_get market.jobs i) false && not (is_given made i)

  -- the job at a place is the user's
  abbrev pub is_of : List ℕ → ℕ → Bool
  is_of user i = option_map_or (λ job. bytes_eq user job.user) (slice_get market.jobs i) false

  -- the job at a place is the user's, and waits once these offers are made
  abbrev pub waits : List ℕ → List (Offer R) → ℕ → Bool
  waits user made i = is_of user i && is_waiting made i

  -- how many resources the job at a place wants
  abbrev pub wants_of : ℕ → ℕ
  wants_of i = option_map_or (λ job. job.wants) (slice_get market.jobs i) 0

  -- a turn goes through the jobs of a user at these places. It ends at a job that wants more than is left of the slice, unless
  -- nothing was given in it; a job that finds nothing costs nothing
  abbrev pub turn : List ℕ → List ℕ → ℕ → Bool → List (Offer R) → List (Offer R)
  turn user [] left given made = []
  turn user (i ∷ is) left given made =
      if waits user made i
      then (if given && nat_lt left (wants_of i)
      then []
      else option_map_or
      (λ resources. record { job = i; resources = resources }
      ∷ turn user is (left - wants_of i) true (made ++ record { job = i; resources = resources } ∷ []))
      (market.find made i)
      (turn user is left given made))
      else turn user is left given made

  -- the turns of users with these slices, one behind the other
  abbrev pub turns : List (List ℕ) → List ℕ → List (Offer R) → List (PlainTurn R)
  turns (user ∷ users) (slice ∷ slices) made =
      record { user = user; slice = slice; offers = turn user (places market.jobs) slice false made }
      ∷ turns users slices (made ++ turn user (places market.jobs) slice false made)
  turns users slices made = []

  -- the users of all jobs, each once, in order
  abbrev pub all_users : List (List ℕ)
  all_users = fold (λ users job. insert_key (user_order market.priority) users job.user) [] market.jobs

  -- those that have a job that waits
  abbrev pub users_of : List (Offer R) → List (List ℕ)
  users_of made = filter (λ user. list_any (waits user made) (places market.jobs)) all_users

  -- the slices by the users' priorities
  abbrev pub shares_of : List (Offer R) → List ℕ
  shares_of made = slices_of (market.free made) (map (λ user. weight_of (market.priority user)) (users_of made))

  -- a spin has the turns that make an offer
  abbrev pub spin : List (Offer R) → PlainSpin R
  spin made = record { free = market.free made; turns = filter has_offer (turns (users_of made) (shares_of made) made) }

  -- the spins up to and with the first that makes no offer, and at most so many
  abbrev pub spins_within : ℕ → List (Offer R) → List (PlainSpin R)
  spins_within zero made = []
  spins_within (suc n) made = spin made ∷ (if is_empty (spin made).turns then [] else spins_within n (made ++ offers_in (spin made).turns))

  -- how many jobs wait once these offers are made
  abbrev pub waiting_count : List (Offer R) → ℕ
  waiting_count made = count_by (is_waiting made) (places market.jobs)

  -- the spins once these offers are made: all but the last give a waiting job something, so there are no more than this
  abbrev pub cycle_from : List (Offer R) → List (PlainSpin R)
  cycle_from made = spins_within (suc (waiting_count made)) made

  -- the spins of a cycle, from no offers on
  abbrev pub cycle_of : List (PlainSpin R)
  cycle_of = cycle_from []
