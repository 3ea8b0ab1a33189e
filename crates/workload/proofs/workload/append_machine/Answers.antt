use Rattle.std.proofs.Common.{codes}
use Rattle.std.proofs.lemmas.Result.{on_ok_weaker}
use Rattle.std.specs.Prelude.{decimal}
use Rattle.workload.specs.Workload.{machine_ad}
use Rattle.workload.proofs.WorkloadLemmas.{five-pieces}
use Rattle.workload.proofs.workload.append_machine.Goals as goal

pub returns : goal.returns
returns c =
    on_ok_weaker c.append-3.result
    (five-pieces c.args.text.now (codes "advertise m") (decimal c.args.i) (codes " 600\n") (machine_ad c.args.i) (codes "\n.\n")
    c.in_ok-append.ensures.ok c.in_ok-append_count.ensures.ok c.in_ok-append-2.ensures.ok c.in_ok-append_machine_ad.ensures)
    c.append-3.ensures.ok
