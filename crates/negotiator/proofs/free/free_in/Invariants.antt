use Rattle.std.proofs.Common.{◌≡◌, ◌≤◌, count_by, take}
use Rattle.claim_table.specs.Table.{jobs_of}
use Rattle.job_clusters.specs.Pools.{is_free}
use Rattle.negotiator.proofs.free.free_in.Given as goal

abbrev pub invariant-loop-slot : goal.invariant-loop-slot
invariant-loop-slot l = record {
  free : l.free ≡ count_by (is_free (jobs_of l.claims)) (take l.slot-index l.slots);
  few : l.free ≤ l.slot-index;
}
