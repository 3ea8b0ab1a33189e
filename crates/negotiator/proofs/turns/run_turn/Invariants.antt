use Rattle.pool_steps.specs.Spent.{IsPaid, IsSame}
use Rattle.dock_match.specs.Small.{AreSmallAds}
use Rattle.claim_table.specs.Small.{AreSmallJobs}
use Rattle.claim_table.specs.Table.{jobs_of}
use Rattle.job_clusters.specs.Clusters.{AreClusters}
use Rattle.job_clusters.specs.Scenes.{settings_in, stock_in}
use Rattle.negotiator.specs.Budget.{counted_with}
use Rattle.negotiator.proofs.TurnLoopLemmas.{TurnLoop}
use Rattle.negotiator.proofs.turns.run_turn.Given as goal

abbrev pub invariant-loop-place : goal.invariant-loop-place
invariant-loop-place g l = record {
  turn : TurnLoop l.scene (jobs_of l.fn.claims) l.share.queue.now.user l.place-items l.share.slice l.fn.failed
      (counted_with l.fn.meter l.fn.clusters)
      l.place-index l.left l.given l.offers (jobs_of l.claims) l.failed (counted_with l.meter l.clusters);
  clusters : AreClusters l.scene.moment (stock_in l.scene) (settings_in l.scene) (jobs_of l.claims) l.clusters;
  same : IsSame l.fn.meter l.meter;
  ratio : AreSmallAds (stock_in l.scene).ads → AreSmallJobs (jobs_of l.fn.claims) → IsPaid l.fn.meter l.meter;
}
