use Rattle.std.proofs.Common.{codes, ◌%◌, ◌++◌, ◌∙◌, ap, ℕ, List}
use Rattle.std.proofs.lemmas.Result.{on_ok_weaker}
use Rattle.std.specs.Prelude.{decimal}
use Rattle.workload.specs.Workload.{job_ad, owner}
use Rattle.workload.proofs.WorkloadLemmas.{five-pieces}
use Rattle.workload.proofs.workload.append_job_ad.Goals as goal

pub returns : goal.returns
unfolding job_ad
returns c =
    on_ok_weaker c.append-4.result
    (five-pieces c.args.text.now (codes "[ Owner = \"") (owner c.args.j) (codes "\"; Requirements = TARGET.Arch == \"A") (decimal (c.args.j % 4))
    (codes "\" && TARGET.Memory >= 128; Rank = TARGET.Memory ]")
    c.in_ok-append.ensures.ok (c.in_ok-append-2.ensures.ok ∙ ap (λ (z : List ℕ). c.append.new.self ++ z) c.owner.ensures) c.in_ok-append-3.ensures.ok
    c.in_ok-append_count.ensures.ok)
    c.append-4.ensures.ok
