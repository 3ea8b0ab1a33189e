-- Jobs as small as those that are read stay so through a cycle.
use Rattle.std.proofs.Common.{◌≡◌, ℕ, List, map, refl, ap, ◌∙◌}
use Rattle.ad_tree.specs.Ad.{ad_frames}
use Rattle.ad_tree.specs.Small.{IsSmall}
use Rattle.ad_tree.specs.declared.request.Request.{Request}
use Rattle.claim_table.specs.declared.job.Job.{Job}
use Rattle.claim_table.specs.Small.{AreSmallJobs}
use Rattle.negotiator.specs.Cycle.{Offer}
use Rattle.negotiator.specs.Markets.{with_offers}
use Rattle.negotiator.proofs.JobLemmas.{all-same}
use Rattle.negotiator.proofs.ShiftLemmas.{kept-all}

-- jobs are small once offers are made to them
pub small-offers : (made : List (Offer ℕ)) (jobs later : List Job) → later ≡ with_offers made jobs → AreSmallJobs jobs → AreSmallJobs later
small-offers made jobs later is small =
    all-same (λ (request : Request). IsSmall (ad_frames request.ad)) jobs later
    (ap (λ (js : List Job). map (λ (job : Job). job.request) js) is ∙ kept-all (λ (job : Job). job.request) (λ job s. refl) made jobs) small
