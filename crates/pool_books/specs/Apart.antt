-- No resource is given to two jobs.
use Rattle.std.specs.Prelude.{◌≡◌, ℕ, true, List, slice_get, Some}
use Rattle.pool_books.specs.Queue.{is_listed}
use Rattle.pool_books.specs.State.{JobStanding, QueuedJob}

-- no two jobs list one resource in this part of their standings
abbrev pub AreExclusive : (JobStanding → List (List ℕ)) → List QueuedJob → Type 0
AreExclusive part jobs = (name : List ℕ) (i j : ℕ) (a b : QueuedJob) → slice_get jobs i ≡ Some a → slice_get jobs j ≡ Some b
    → is_listed name (part a.standing) ≡ true → is_listed name (part b.standing) ≡ true → i ≡ j
