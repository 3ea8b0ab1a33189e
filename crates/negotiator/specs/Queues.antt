-- The jobs of each user, as a cycle keeps them.
use Rattle.std.specs.Prelude.{◌≡◌, ◌≤◌, ◌<◌, ℕ, Bool, true, false, List, [], ◌∷◌, ◌++◌, All, Vec, filter, length, map}
use Rattle.std.specs.Prelude.{slice_index_or, take}
use Rattle.std.specs.Cmp.Lexicographic.{slice_cmp}
use Rattle.std.specs.List.{list_any}
use Rattle.std.specs.Ordering.{match_ordering, nat_cmp, ordering_then}
use Rattle.std.specs.declared.alloc.Global.{Global}
use Rattle.std.specs.declared.cmp.Ordering.{Ordering}
use Rattle.claim_table.specs.declared.job.Job.{Job}
use Rattle.claim_table.specs.Priorities.{user_order}
use Rattle.negotiator.specs.declared.queues.Queue.{Queue}
use Rattle.negotiator.specs.Budget.{is_due, is_idle_at}
use Rattle.negotiator.specs.Cycle.{Market, all_users, is_of, places}

-- a user's priority and name
abbrev pub Key : Type 0
Key = ℕ × Vec ℕ Global

-- keys by priority and then by name
abbrev pub key_order : Key → Key → Ordering
key_order a b = ordering_then (nat_cmp a.0 b.0) (slice_cmp nat_cmp a.1.items b.1.items)

-- the queue of a user's places
abbrev pub queue_of : Key × List ℕ → Queue
queue_of e = record { user = e.0.1.items; number = e.0.0; places = e.1; head = 0; has_failed = false }

-- the queues with a place more for a user: last in the user's queue, or in a new one that stands where the user does in the order
abbrev pub enqueued : (List ℕ → ℕ) → List ℕ → ℕ → List Queue → List Queue
enqueued priority user place [] = record { user = user; number = priority user; places = place ∷ []; head = 0; has_failed = false } ∷ []
enqueued priority user place (queue ∷ queues) =
    match_ordering (user_order priority user queue.user)
    (record { user = user; number = priority user; places = place ∷ []; head = 0; has_failed = false } ∷ queue ∷ queues)
    (record queue { places = queue.places ++ place ∷ [] } ∷ queues)
    (queue ∷ enqueued priority user place queues)

-- each user has a queue of the places of the user's jobs
pub record AreQueues (market : Market ℕ) (queues : List Queue) : Type 0 where
  pub users : map (λ queue. queue.user) queues ≡ all_users market
  pub numbers : All (λ queue. queue.number ≡ market.priority queue.user) queues
  pub places : All (λ queue. queue.places ≡ filter (is_of market queue.user) (places market.jobs)) queues

-- so it has, and no head was moved yet
pub record AreFresh (market : Market ℕ) (queues : List Queue) : Type 0 where
  pub are : AreQueues market queues
  pub fresh : All (λ queue. (queue.head ≡ 0) × (queue.has_failed ≡ false)) queues

-- no job before the head is due, and it is noted whether one of these is idle
pub record IsAhead (jobs : List Job) (failed : List Bool) (queue : Queue) : Type 0 where
  pub within : queue.head ≤ length queue.places
  pub passed : All (λ i. is_due jobs failed i ≡ false) (take queue.head queue.places)
  pub noted : queue.has_failed ≡ list_any (is_idle_at jobs) (take queue.head queue.places)

-- the job at the head is due, where there is one
abbrev pub IsAtHead : List Job → List Bool → Queue → Type 0
IsAtHead jobs failed queue = queue.head < length queue.places → is_due jobs failed (slice_index_or queue.places queue.head 0) ≡ true

-- the queue of the same user's places
abbrev pub IsSame : Queue → Queue → Type 0
IsSame queue later = later ≡ record queue { head = later.head; has_failed = later.has_failed }
