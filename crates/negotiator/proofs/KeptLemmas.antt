-- What is known of classes stays so under other names, and through an offer.
use Rattle.std.proofs.Common.{◌≡◌, ◌+◌, ◌-◌, ℕ, true, List, get_or, take, refl, ap, ◌∙◌, arith}
use Rattle.std.proofs.Math.Path.{fun_ext}
use Rattle.std.proofs.lemmas.Option.{IfSome_then}
use Rattle.pool_steps.specs.declared.meter.Meter.{Meter}
use Rattle.ad_tree.specs.Ad.{ad_frames}
use Rattle.ad_tree.specs.Frames.{Frame}
use Rattle.ad_store.specs.Stock.{Stock}
use Rattle.dock_match.specs.Pool.{pool_of}
use Rattle.bilateral_match.specs.Members.{best_slot}
use Rattle.claim_table.specs.declared.job.Job.{Job}
use Rattle.claim_table.specs.declared.job.Stage.{Stage}
use Rattle.claim_table.specs.Jobs.{with_standing}
use Rattle.claim_table.specs.Priorities.{Setting}
use Rattle.job_clusters.specs.declared.class.Class.{Class}
use Rattle.job_clusters.specs.declared.class.Ranked.{Ranked}
use Rattle.job_clusters.specs.declared.clusters.Clusters.{Clusters}
use Rattle.job_clusters.specs.declared.scene.Scene.{Scene}
use Rattle.job_clusters.specs.Clusters.{AreClusters, IsClass, IsRanked}
use Rattle.job_clusters.specs.Pools.{free_among}
use Rattle.job_clusters.specs.Scenes.{settings_in, stock_in}
use Rattle.negotiator.specs.Budget.{counted_with, is_idle_at}
use Rattle.negotiator.proofs.JobLemmas.{holder-later, offered-later}

pub same-clusters : (scene : Scene) {jobs later : List Job} {clusters after : Clusters} → later ≡ jobs → after ≡ clusters
    → AreClusters scene.moment (stock_in scene) (settings_in scene) jobs clusters
    → AreClusters scene.moment (stock_in scene) (settings_in scene) later after
same-clusters scene jobs_are clusters_are are = rw (jobs_are, clusters_are) are

-- what was counted, under other names
pub counted-same : {F E T : Type 0} {meter meter2 : Meter F E T} {clusters clusters2 : Clusters} → meter2 ≡ meter → clusters2 ≡ clusters
    → counted_with meter2 clusters2 ≡ counted_with meter clusters
counted-same meter_is clusters_are = rw (meter_is, clusters_are) refl

-- ---- one more offer

module _ (moment : ℕ) (stock : Stock) (settings : List Setting) (jobs : List Job) (i : ℕ) (slots : List ℕ) (idle : is_idle_at jobs i ≡ true) where
  abbrev later : List Job
  later = with_standing jobs i (Stage.Matched slots)

  ranked-later : (request : List Frame) (number : ℕ) (ranked : Ranked) → IsRanked moment stock settings jobs request number ranked
      → IsRanked moment stock settings later request number ranked
  ranked-later request number ranked is = record {
    list = λ more grows.
        ap (λ holding. best_slot stock (pool_of moment stock more holding) request number) (fun_ext (holder-later jobs i slots idle settings))
        ∙ is.list more (λ slot some. grows slot (offered-later jobs i slots idle slot some));
    passed = λ k d within. offered-later jobs i slots idle (get_or (take ranked.passed ranked.slots) k d) (is.passed k d within);
  }

  class-later : (class : Class) → IsClass moment stock settings jobs class → IsClass moment stock settings later class
  class-later class is = record { marked = is.marked; ranked = IfSome_then class.ranked is.ranked (ranked-later (ad_frames class.ad) class.number) }

  pub clusters-later : (clusters : Clusters) (taken : ℕ) → free_among stock later + taken ≡ free_among stock jobs
      → AreClusters moment stock settings jobs clusters
      → AreClusters moment stock settings later (record clusters { free = clusters.free - taken })
  clusters-later clusters taken fewer are = record {
    reach = are.reach;
    classes = λ k d within. class-later (get_or clusters.classes.items k d) (are.classes k d within);
    known = are.known;
    free = let free = are.free in omega (arith, free, fewer);
    few = let few = are.few in omega (arith, few);
  }
