-- A job as small as those that are read has a request as small.
use Rattle.std.proofs.Common.{◌≡◌, ℕ, zero, suc, List, [], ◌∷◌, slice_get, Some, subst}
use Rattle.std.specs.Prelude.{option_map}
use Rattle.std.proofs.lemmas.List.Elements.{All-head, All-tail}
use Rattle.std.proofs.lemmas.Option.{none-some, same_Some}
use Rattle.ad_tree.specs.Ad.{ad_frames}
use Rattle.ad_tree.specs.Small.{IsSmall}
use Rattle.ad_tree.specs.declared.request.Request.{Request}
use Rattle.claim_table.specs.declared.job.Job.{Job}
use Rattle.claim_table.specs.Small.{AreSmallJobs}

-- the request of a small job is small
pub small-job : (jobs : List Job) (i : ℕ) (request : Request) → option_map (λ (job : Job). job.request) (slice_get jobs i) ≡ Some request
    → AreSmallJobs jobs → IsSmall (ad_frames request.ad)
small-job [] i request at small = absurd (none-some request at)
small-job (j ∷ jobs) zero request at small =
    subst (λ (r : Request). IsSmall (ad_frames r.ad)) (same_Some j.request request at)
    (All-head (λ (job : Job). IsSmall (ad_frames job.request.ad)) j jobs small)
small-job (j ∷ jobs) (suc i) request at small = small-job jobs i request at (All-tail (λ (job : Job). IsSmall (ad_frames job.request.ad)) j jobs small)
