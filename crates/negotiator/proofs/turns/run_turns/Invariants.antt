use Rattle.pool_steps.specs.Spent.{IsPaid, IsSame}
use Rattle.dock_match.specs.Small.{AreSmallAds}
use Rattle.claim_table.specs.Small.{AreSmallJobs}
use Rattle.claim_table.specs.Table.{jobs_of}
use Rattle.job_clusters.specs.Clusters.{AreClusters}
use Rattle.job_clusters.specs.Scenes.{settings_in, stock_in}
use Rattle.negotiator.specs.Budget.{counted_with}
use Rattle.negotiator.specs.Scenes.{users_at}
use Rattle.negotiator.proofs.SpinLoopLemmas.{TurnsLoop}
use Rattle.negotiator.proofs.turns.run_turns.Given as goal

abbrev pub invariant-loop-k : goal.invariant-loop-k
invariant-loop-k g l = record {
  turns : TurnsLoop l.scene (jobs_of l.fn.claims) (users_at l.shares.queues.now l.shares.active.now) l.shares.slices.now l.fn.failed
      (counted_with l.fn.meter l.fn.clusters)
      l.k l.turns (jobs_of l.claims) l.failed (counted_with l.meter l.clusters);
  clusters : AreClusters l.scene.moment (stock_in l.scene) (settings_in l.scene) (jobs_of l.claims) l.clusters;
  same : IsSame l.fn.meter l.meter;
  ratio : AreSmallAds (stock_in l.scene).ads → AreSmallJobs (jobs_of l.fn.claims) → IsPaid l.fn.meter l.meter;
}
