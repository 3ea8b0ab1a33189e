use Rattle.std.proofs.Common.{length}
use Rattle.pool_steps.specs.Spent.{IsPaid, IsSame}
use Rattle.script_run.specs.Effects.{effects_of}
use Rattle.pool_state.specs.Heard.{heard}
use Rattle.pool_state.specs.Pool.{state_of}
use Rattle.pool_engine.specs.Workloads.{silent}
use Rattle.pool_engine.proofs.SummingLemmas.{Summing}
use Rattle.pool_engine.proofs.workload_run.sum_waiting.Given as goal

abbrev pub invariant-loop-command : goal.invariant-loop-command
invariant-loop-command g l = record {
  summing : Summing (heard (state_of l.initial.pool) (g.D.Notices.shows l.initial.desk)) (heard (state_of l.pool) (g.D.Notices.shows l.desk))
      (effects_of silent l.initial.meter (g.D.Notices.shows l.initial.desk)) (effects_of silent l.meter (g.D.Notices.shows l.desk))
      l.initial.script.waiting l.script.waiting l.summary;
  same : IsSame l.initial.meter l.meter;
  ratio : IsPaid l.initial.meter l.meter;
}

abbrev pub decreases-loop-command : goal.decreases-loop-command
decreases-loop-command g l = length l.script.waiting
