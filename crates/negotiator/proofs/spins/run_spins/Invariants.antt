use Rattle.std.proofs.Common.{[], All}
use Rattle.pool_steps.specs.Spent.{IsPaid, IsSame}
use Rattle.dock_match.specs.Small.{AreSmallAds}
use Rattle.claim_table.specs.Small.{AreSmallJobs}
use Rattle.claim_table.specs.Table.{jobs_of}
use Rattle.job_clusters.specs.Clusters.{AreClusters}
use Rattle.job_clusters.specs.Scenes.{settings_in, stock_in}
use Rattle.negotiator.specs.Budget.{counted_with}
use Rattle.negotiator.specs.Cycle.{waiting_count}
use Rattle.negotiator.specs.Queues.{AreQueues, IsAhead}
use Rattle.negotiator.specs.Scenes.{market_in}
use Rattle.negotiator.proofs.SpinLoopLemmas.{SpinsLoop}
use Rattle.negotiator.proofs.spins.run_spins.Given as goal

abbrev pub invariant-loop-spins : goal.invariant-loop-spins
invariant-loop-spins g l = record {
  spins : SpinsLoop l.scene (jobs_of l.fn.claims) l.fn.failed (counted_with l.fn.meter l.fn.clusters) l.spins (jobs_of l.claims)
      l.failed (counted_with l.meter l.clusters);
  queues : AreQueues (market_in l.scene (jobs_of l.fn.claims)) l.queues;
  ahead : All (IsAhead (jobs_of l.claims) l.failed) l.queues;
  clusters : AreClusters l.scene.moment (stock_in l.scene) (settings_in l.scene) (jobs_of l.claims) l.clusters;
  same : IsSame l.fn.meter l.meter;
  ratio : AreSmallAds (stock_in l.scene).ads → AreSmallJobs (jobs_of l.fn.claims) → IsPaid l.fn.meter l.meter;
}

abbrev pub decreases-loop-spins : goal.decreases-loop-spins
decreases-loop-spins g l = waiting_count (market_in l.scene (jobs_of l.claims)) []
