-- Where the ads of the jobs are small, so are those of the holders.
use Rattle.std.proofs.Common.{List}
use Rattle.ad_tree.specs.Ad.{ad_frames}
use Rattle.ad_tree.specs.Small.{IsSmall}
use Rattle.dock_match.specs.Small.{AreSmallHolders}
use Rattle.claim_table.specs.declared.job.Job.{Job}
use Rattle.claim_table.specs.Holders.{holder_of}
use Rattle.claim_table.specs.Priorities.{Setting}
use Rattle.claim_table.specs.Small.{AreSmallJobs}
use Rattle.claim_table.proofs.HolderLemmas.{holder-found}

-- each holder's request is that of a job
pub holders-small : (settings : List Setting) (jobs : List Job) → AreSmallJobs jobs → AreSmallHolders (holder_of settings jobs)
holders-small settings jobs all slot h = holder-found (λ x. IsSmall (ad_frames x.request.ad)) settings jobs slot h all
