-- Jobs whose ads are as small as those that are read.
use Rattle.std.specs.Prelude.{List, All}
use Rattle.ad_tree.specs.Ad.{ad_frames}
use Rattle.ad_tree.specs.Small.{IsSmall}
use Rattle.claim_table.specs.declared.job.Job.{Job}

abbrev pub AreSmallJobs : List Job → Type 0
AreSmallJobs jobs = All (λ job. IsSmall (ad_frames job.request.ad)) jobs
