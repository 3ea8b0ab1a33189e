use Rattle.std.proofs.Common.{◌∙◌, arith, refl}
use Rattle.std.proofs.lemmas.Result.{err_from_is_err_and}
use Rattle.pool_steps.proofs.MeterLemmas.{same-none, same-on}
use Rattle.script_run.proofs.RunningLemmas.{Running-item, Running-start, Running-stopped}
use Rattle.script_run.proofs.TookLemmas.{from_some}
use Rattle.script_run.proofs.answering.answer_waiting.Goals as goal

pub loop-refusals-init : goal.loop-refusals-init
loop-refusals-init g c = record {
  running = Running-start g.M.Machine.rules g.met.M.Machine.lawful _ _ _ _ c.requires;
  same = same-none c.args.meter.now;
  ratio = omega arith;
  over = refl;
  stands = λ bytes n stands. (n, stands);
}

pub returns-in_err-refusals-clause-stopped : goal.returns-in_err-refusals-clause-stopped
returns-in_err-refusals-clause-stopped g c =
    let stopped =
    Running-stopped g.M.Machine.rules g.met.M.Machine.lawful _ _ _ _ _ _ _ _ _ _ c.loop-refusals.invariant.running c.in_err-refusals.ensures.stopped in
    let exit = err_from_is_err_and c.from_residual.result c.from_residual.ensures.1 in
    rw (exit.1, exit.2) stopped

pub loop-refusals-preserved : goal.loop-refusals-preserved
loop-refusals-preserved g c =
    let one = from_some c.in_ok-refusals.field-0 c.in-Some.refusals _ c.in-Some.is c.in_ok-refusals.ensures.took in
    record {
      running = Running-item g.M.Machine.rules g.met.M.Machine.lawful _ _ _ _ _ _ _ _ _ _ _ c.in-Some.refusals c.loop-refusals.invariant.running one;
      same = same-on c.loop-refusals.invariant.same c.answer_one.ensures.same;
      ratio = omega (arith, c.loop-refusals.invariant.ratio, c.answer_one.ensures.ratio);
      over = c.answer_one.ensures.over ∙ c.loop-refusals.invariant.over;
      stands = λ bytes n stands. let before = c.loop-refusals.invariant.stands bytes n stands in c.answer_one.ensures.stands bytes before.0 before.1;
    }
