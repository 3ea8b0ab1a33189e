use Rattle.std.proofs.Common.{List, IfOk, OnErr, ap, subst}
use Rattle.pool_script.specs.declared.command.Command.{Command}
use Rattle.script_run.specs.declared.run_end.RunEnd.TheVariants.{OutOfMemory}
use Rattle.script_run.specs.Effects.{effects_of}
use Rattle.run_rules.specs.Events.{events_of}
use Rattle.script_run.specs.Answering.{Stopped, Took}
use Rattle.pool_state.specs.Heard.{Heard, heard, opened}
use Rattle.pool_books.specs.State.{State}
use Rattle.pool_engine.specs.Workloads.{IsSummaryOf, silent, workload_commands}
use Rattle.pool_engine.proofs.SummingLemmas.{always_err}
use Rattle.script_run.proofs.TookLemmas.{Stopped-none}
use Rattle.run_rules.specs.PoolRules.{pool_rules}
use Rattle.run_rules.proofs.PoolLemmas.{pool_lawful}
use Rattle.pool_engine.proofs.workload_run.summed.Goals as goal

pub returns-in_err-script-clause-stopped : goal.returns-in_err-script-clause-stopped
returns-in_err-script-clause-stopped g c =
    always_err c.from_residual.result _ (Stopped-none pool_rules pool_lawful (opened (g.D.Notices.shows c.args.desk.now))
    (effects_of silent c.args.meter.now (g.D.Notices.shows c.args.desk.now)) (workload_commands c.args.machines))

pub returns-clause-summed : goal.returns-clause-summed
returns-clause-summed g c =
    let rows = g.D.Notices.shows c.args.desk.now in
    let there = ap (λ (pool : State). heard pool rows) c.requires in
    subst (λ (commands : List Command). IfOk c.sum_waiting-summary.result (λ summary. IsSummaryOf summary (events_of (opened rows) commands)))
    c.in_ok-script.ensures
    (subst (λ (h : Heard). IfOk c.sum_waiting-summary.result (λ summary. IsSummaryOf summary (events_of h c.in_ok-script.script.waiting))) there
    c.sum_waiting-summary.ensures.summed)

pub returns-clause-took : goal.returns-clause-took
returns-clause-took g c =
    let rows = g.D.Notices.shows c.args.desk.now in
    let there = ap (λ (pool : State). heard pool rows) c.requires in
    let before = effects_of silent c.args.meter.now rows in
    let after = effects_of silent c.sum_waiting-summary.new.meter (g.D.Notices.shows c.sum_waiting-summary.new.desk) in
    subst (λ (commands : List Command). IfOk c.sum_waiting-summary.result
    (λ summary. (t : Heard) × Took pool_rules (opened rows) t before after commands 0 summary.refused)) c.in_ok-script.ensures
    (subst (λ (h : Heard). IfOk c.sum_waiting-summary.result
    (λ summary. (t : Heard) × Took pool_rules h t before after c.in_ok-script.script.waiting 0 summary.refused)) there c.sum_waiting-summary.ensures.took)

pub returns-clause-stopped : goal.returns-clause-stopped
returns-clause-stopped g c =
    let rows = g.D.Notices.shows c.args.desk.now in
    let there = ap (λ (pool : State). heard pool rows) c.requires in
    let before = effects_of silent c.args.meter.now rows in
    let after = effects_of silent c.sum_waiting-summary.new.meter (g.D.Notices.shows c.sum_waiting-summary.new.desk) in
    subst (λ (commands : List Command). OnErr c.sum_waiting-summary.result (Stopped pool_rules (opened rows) before after commands OutOfMemory))
    c.in_ok-script.ensures
    (subst (λ (h : Heard). OnErr c.sum_waiting-summary.result (Stopped pool_rules h before after c.in_ok-script.script.waiting OutOfMemory)) there
    c.sum_waiting-summary.ensures.stopped)
