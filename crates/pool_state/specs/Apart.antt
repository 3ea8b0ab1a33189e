-- No resource is given to two jobs.
use Rattle.std.specs.Prelude.{◌≡◌, true, All}
use Rattle.ad_store.specs.Stock.{has}
use Rattle.pool_books.specs.Apart.{AreExclusive}
use Rattle.pool_books.specs.Queue.{claim_names, names_of, offer_names}
use Rattle.pool_books.specs.State.{State}

-- each resource is offered to one job at most, and claimed by one at most, and each resource of a job is an ad that is held
pub record AreGivenApart (s : State) : Type 0 where
  pub offers : AreExclusive offer_names s.jobs
  pub claims : AreExclusive claim_names s.jobs
  pub held : All (λ job. All (λ name. has name s.ads ≡ true) (names_of job.standing)) s.jobs
