use Rattle.std.proofs.Common.{◌≡◌, ◌≤◌, count_by, take}
use Rattle.ad_store.specs.Store.{stock_of}
use Rattle.claim_table.specs.Table.{jobs_of}
use Rattle.job_clusters.specs.Pools.{is_free}
use Rattle.negotiator.proofs.free.free_count.Given as goal

abbrev pub invariant-loop-i : goal.invariant-loop-i
invariant-loop-i l = record {
  free : l.free ≡ count_by (is_free (jobs_of l.claims)) (take l.i (stock_of l.store).slots);
  few : l.free ≤ l.i;
}
