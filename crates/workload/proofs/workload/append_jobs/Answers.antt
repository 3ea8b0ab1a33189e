use Rattle.std.proofs.Common.{◌++◌, ℕ, List, ap, ◌∙◌}
use Rattle.workload.specs.Workload.{job}
use Rattle.workload.proofs.WorkloadLemmas.{text-more}
use Rattle.workload.proofs.workload.append_jobs.Goals as goal

pub loop-j-preserved : goal.loop-j-preserved
loop-j-preserved c =
    c.in_ok-append_job.ensures ∙ ap (λ (t : List ℕ). t ++ job c.loop-j.j) c.loop-j.invariant ∙ text-more job c.args.text.now c.loop-j.j
