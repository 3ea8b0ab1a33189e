use Rattle.std.proofs.Common.{arith, refl}
use Rattle.pool_steps.proofs.MeterLemmas.{same-none, same-on}
use Rattle.pool_engine.proofs.SummingLemmas.{Summing-behind, Summing-command, Summing-start, Summing-tried, always_err}
use Rattle.pool_engine.proofs.workload_run.sum_waiting.Goals as goal

pub loop-command-init : goal.loop-command-init
loop-command-init g c = record {
  summing =
      Summing-start _ _ _ _ _ c.new-summary.result refl refl c.new-summary.ensures.commands c.new-summary.ensures.refused c.new-summary.ensures.hits
      c.new-summary.ensures.offers c.new-summary.ensures.bytes;
  same = same-none c.args.meter.now;
  ratio = omega arith;
}

pub returns-in_err-one-clause-stopped : goal.returns-in_err-one-clause-stopped
returns-in_err-one-clause-stopped g c =
    always_err c.from_residual.result _ (Summing-tried _ _ _ _ _ _ _ _ c.in-Some.command c.loop-command.summary c.loop-command.invariant.summing
    c.in-Some.ensures.waiting refl c.in_err-one.ensures.tried)

pub loop-command-preserved : goal.loop-command-preserved
loop-command-preserved g c = record {
  summing =
      Summing-command _ _ _ _ _ _ _ _ _ c.in-Some.command c.loop-command.summary c.in_ok-one.one c.add.new.self c.loop-command.invariant.summing
      c.in-Some.ensures.waiting c.in_ok-one.ensures.took c.in_ok-one.ensures.summed c.in_ok-add.ensures.commands c.in_ok-add.ensures.refused
      c.in_ok-add.ensures.hits c.in_ok-add.ensures.offers c.in_ok-add.ensures.bytes;
  same = same-on c.loop-command.invariant.same c.answered.ensures.same;
  ratio = omega (arith, c.loop-command.invariant.ratio, c.answered.ensures.ratio);
}

pub returns-in_err-add-clause-stopped : goal.returns-in_err-add-clause-stopped
returns-in_err-add-clause-stopped g c =
    always_err c.from_residual-in_err-add.result _ (Summing-behind _ _ _ _ _ _ _ _ _ c.in-Some.command c.loop-command.summary c.in_ok-one.one.refused
    c.loop-command.invariant.summing c.in-Some.ensures.waiting c.in_ok-one.ensures.took)
