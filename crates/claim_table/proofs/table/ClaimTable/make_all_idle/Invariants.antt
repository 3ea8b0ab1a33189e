use Rattle.std.proofs.Common.{◌≡◌, length, take}
use Rattle.claim_table.specs.Claims.{all_idle}
use Rattle.claim_table.specs.Table.{jobs_of}
use Rattle.claim_table.proofs.table.ClaimTable.make_all_idle.Given as goal

abbrev pub invariant-loop-i : goal.invariant-loop-i
invariant-loop-i l = record {
  jobs : jobs_of l.self ≡ all_idle (jobs_of l.initial.self) (take l.i-index l.numbers);
  len : length (jobs_of l.self) ≡ length (jobs_of l.initial.self);
}
