use Rattle.std.proofs.Common.{◌≡◌, true, All, take}
use Rattle.claim_table.specs.Table.{jobs_of}
use Rattle.job_clusters.specs.Clusters.{is_offered}
use Rattle.job_clusters.proofs.class.first_left.Given as goal

abbrev pub invariant-loop-k : goal.invariant-loop-k
invariant-loop-k l = All (λ slot. is_offered (jobs_of l.claims) slot ≡ true) (take l.k l.slots)
