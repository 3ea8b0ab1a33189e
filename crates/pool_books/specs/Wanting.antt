-- What ads and jobs can be where memory was wanting.
use Rattle.std.specs.Prelude.{◌≡◌, ◌⊎◌, ℕ, List, [], ◌++◌, Some, bytes_eq}
use Rattle.ad_store.specs.Stock.{Advert, Stock, slot_named, without}
use Rattle.ad_store.specs.declared.answers.PutFault.{PutFault}
use Rattle.negotiator.specs.Cycle.{Offer, cycle_of, offers_of}
use Rattle.pool_books.specs.Negotiation.{market_in, with_offers}
use Rattle.pool_books.specs.Queue.{without_resources}
use Rattle.pool_books.specs.State.{QueuedJob, State}
use Rattle.pool_books.specs.Stocks.{stock_without}

-- for want of memory the ad of a name left, which had this slot
pub record IsGone (name : List ℕ) (fault : PutFault) (old new : Stock) (slot : ℕ) : Type 0 where
  pub wanting : fault ≡ PutFault.OutOfMemory
  pub had : slot_named name old ≡ Some slot
  pub left : new ≡ stock_without name old

-- an ad wasn't put: all is as it was; or the ad of its name has left, and the jobs that had it are idle, or there are none any more
abbrev pub IsNotPut : List ℕ → List Advert → List QueuedJob → List Advert → List QueuedJob → Type 0
IsNotPut name ads jobs later_ads later_jobs =
    ((later_ads ≡ ads) × (later_jobs ≡ jobs))
    ⊎ ((later_ads ≡ without name ads) × ((later_jobs ≡ without_resources (bytes_eq name) jobs) ⊎ (later_jobs ≡ [])))

-- these are the jobs of a state once some first of the offers of its cycle are made
pub record IsPartOffered (s : State) (later : List QueuedJob) : Type 0 where
  pub front : List (Offer (List ℕ))
  pub rest : List (Offer (List ℕ))
  pub all : offers_of (cycle_of (market_in s)) ≡ front ++ rest
  pub made : later ≡ with_offers front s.jobs
