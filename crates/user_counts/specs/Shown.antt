-- Words of private contracts: the numbers of jobs under keys.
use Rattle.std.specs.Prelude.{◌≡◌, ℕ, ◌<◌, ◌^◌, ◌+◌, List, All, Vec, map, unwrap_or}
use Rattle.std.specs.BTreeMap.{BTreeMap, get, keys}
use Rattle.std.specs.Cmp.Lexicographic.{slice_cmp}
use Rattle.std.specs.Ordering.{nat_cmp, ordering_then}
use Rattle.std.specs.declared.alloc.Global.{Global}
use Rattle.std.specs.declared.cmp.Ordering.{Ordering}
use Rattle.claim_table.specs.Priorities.{Setting, priority_of}
use Rattle.claim_table.specs.declared.answers.JobState.{JobState}
use Rattle.pool_replies.specs.declared.rows.JobCounts.{JobCounts}
use Rattle.pool_replies.specs.declared.rows.UserRow.{UserRow}
use Rattle.user_counts.specs.Users.{UserJob, counts_of, in_order}

-- a user's priority and name
abbrev pub Key : Type 0
Key = ℕ × Vec ℕ Global

abbrev pub key_order : Key → Key → Ordering
key_order a b = ordering_then (nat_cmp a.0 b.0) (slice_cmp nat_cmp a.1.items b.1.items)

abbrev pub no_jobs : JobCounts
no_jobs = record { idle = 0; matched = 0; claimed = 0 }

abbrev pub one_more : JobState → JobCounts → JobCounts
one_more JobState.Idle counts = record counts { idle = counts.idle + 1 }
one_more JobState.Matched counts = record counts { matched = counts.matched + 1 }
one_more JobState.Claimed counts = record counts { claimed = counts.claimed + 1 }

-- numbers that may grow
abbrev pub IsFew : JobCounts → Type 0
IsFew counts = (counts.idle < 2 ^ 63) × (counts.matched < 2 ^ 63) × (counts.claimed < 2 ^ 63)

abbrev pub row_of : Key × JobCounts → UserRow
row_of e = record { user = e.0.1.items; priority = e.0.0; counts = e.1 }

-- the keys are those of these users, and under each is how many of these jobs the user has
pub record IsTally (settings : List Setting) (users : List (List ℕ)) (jobs : List UserJob) (tallies : BTreeMap Key JobCounts) : Type 0 where
  pub names : map (λ key. key.1.items) (keys tallies) ≡ in_order settings users
  pub numbers : All (λ key. key.0 ≡ priority_of key.1.items settings) (keys tallies)
  pub counts : (key : Key) → key.0 ≡ priority_of key.1.items settings → unwrap_or (get key_order tallies key) no_jobs ≡ counts_of jobs key.1.items
