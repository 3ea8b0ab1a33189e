-- What is known of the classes of jobs in a cycle, and stays known while more is offered.
use Rattle.std.specs.Prelude.{◌≡◌, ◌≤◌, ◌^◌, ℕ, Bool, true, List, All, IfSome, is_some, take}
use Rattle.ad_tree.specs.Ad.{ad_frames}
use Rattle.ad_tree.specs.Frames.{Frame}
use Rattle.ad_store.specs.Stock.{Stock}
use Rattle.bilateral_match.specs.Known.{AreKnown}
use Rattle.bilateral_match.specs.Shortlists.{IsShortlist}
use Rattle.claim_table.specs.declared.job.Job.{Job}
use Rattle.claim_table.specs.Holders.{holder_of}
use Rattle.claim_table.specs.Jobs.{offered_to}
use Rattle.claim_table.specs.Priorities.{Setting}
use Rattle.significant_attrs.specs.Shown.{HasReadAds, ads_in}
use Rattle.significant_attrs.specs.Twins.{AreAllMarked}
use Rattle.job_clusters.specs.declared.class.Class.{Class}
use Rattle.job_clusters.specs.declared.class.Ranked.{Ranked}
use Rattle.job_clusters.specs.declared.clusters.Clusters.{Clusters}
use Rattle.job_clusters.specs.Pools.{free_among}

-- one of the jobs is offered the resource
abbrev pub is_offered : List Job → ℕ → Bool
is_offered jobs slot = is_some (offered_to slot jobs)

-- the slots are a shortlist for a request and a user with this number, and those that were passed are offered
pub record IsRanked (moment : ℕ) (stock : Stock) (settings : List Setting) (jobs : List Job) (request : List Frame) (number : ℕ) (ranked : Ranked) : Type
    0 where
  pub list : IsShortlist moment stock (is_offered jobs) (holder_of settings jobs) request number ranked.slots
  pub passed : All (λ slot. is_offered jobs slot ≡ true) (take ranked.passed ranked.slots)

-- each attribute of the class's ad that the matching can come to is marked, and its list is one for that ad
pub record IsClass (moment : ℕ) (stock : Stock) (settings : List Setting) (jobs : List Job) (class : Class) : Type 0 where
  pub marked : AreAllMarked (ads_in stock.ads) (ad_frames class.ad) class.marks.items
  pub ranked : IfSome class.ranked (IsRanked moment stock settings jobs (ad_frames class.ad) class.number)

-- so is each class, the names that are read are those of the ads, the ranks that are kept are those by their expressions, and so many resources are free
pub record AreClusters (moment : ℕ) (stock : Stock) (settings : List Setting) (jobs : List Job) (clusters : Clusters) : Type 0 where
  pub reach : IfSome clusters.reach (λ reach. HasReadAds reach stock.ads)
  pub classes : All (IsClass moment stock settings jobs) clusters.classes.items
  pub known : AreKnown moment stock.ads clusters.known
  pub free : clusters.free ≡ free_among stock jobs
  pub few : clusters.free ≤ 10 ^ 4
