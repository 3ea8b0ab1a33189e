use Rattle.std.proofs.Common.{◌++◌, ℕ, List, ap, ◌∙◌}
use Rattle.workload.specs.Workload.{machine}
use Rattle.workload.proofs.WorkloadLemmas.{text-more}
use Rattle.workload.proofs.workload.append_machines.Goals as goal

pub loop-i-preserved : goal.loop-i-preserved
loop-i-preserved c =
    c.in_ok-append_machine.ensures ∙ ap (λ (t : List ℕ). t ++ machine c.loop-i.i) c.loop-i.invariant ∙ text-more machine c.args.text.now c.loop-i.i
