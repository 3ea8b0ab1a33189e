use Rattle.std.proofs.Common.{◌≡◌, ◌++◌}
use Rattle.std.specs.List.{flat_map, range_with_len}
use Rattle.workload.specs.Workload.{job}
use Rattle.workload.proofs.workload.append_jobs.Given as goal

abbrev pub invariant-loop-j : goal.invariant-loop-j
invariant-loop-j l = l.text ≡ l.initial.text ++ flat_map job (range_with_len 0 l.j)
