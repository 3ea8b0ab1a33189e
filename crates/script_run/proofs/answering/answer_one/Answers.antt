use Rattle.std.proofs.Common.{refl}
use Rattle.std.proofs.lemmas.Result.{err_from_is_err_and}
use Rattle.script_run.specs.Answering.{Answers}
use Rattle.script_run.specs.Effects.{beside_of, effects_of}
use Rattle.script_run.proofs.TookLemmas.{Stopped-failed, Stopped-offered, from_some}
use Rattle.script_run.proofs.WroteLemmas.{Broke-at}
use Rattle.script_run.proofs.answering.answer_one.Goals as goal

pub returns-in_err-answer-clause-stopped : goal.returns-in_err-answer-clause-stopped
returns-in_err-answer-clause-stopped g c =
    let sink = g.K.Sink.shows c.args.sink.now in
    let exit = err_from_is_err_and c.from_residual.result c.from_residual.ensures.1 in
    rw (exit.1, exit.2) (Stopped-failed g.M.Machine.rules g.met.M.Machine.lawful _ _ (effects_of sink c.args.meter.now
    (g.D.Notices.shows c.args.desk.now)) (effects_of sink c.answer.new.meter (g.D.Notices.shows c.answer.new.desk)) refl
    c.in_err-answer.ensures.failed)

pub returns-in-Err-clause-stopped : goal.returns-in-Err-clause-stopped
returns-in-Err-clause-stopped g c =
    let answers =
    from_some c.in_ok-answer.field-0 c.in-Some.answer (Answers g.M.Machine.rules (g.M.Machine.held c.args.machine.now).waiting
    (g.M.Machine.held c.answer.new.self).waiting (g.M.Machine.state c.args.machine.now (g.D.Notices.shows c.args.desk.now))
    (g.M.Machine.state c.answer.new.self (g.D.Notices.shows c.answer.new.desk))
    (beside_of c.args.meter.now (g.D.Notices.shows c.args.desk.now))
    (beside_of c.answer.new.meter (g.D.Notices.shows c.answer.new.desk))) c.in-Some.is c.in_ok-answer.ensures.answered in
    let broke =
    Broke-at (g.K.Sink.shows c.args.sink.now) (g.K.Sink.shows c.write_all-written.new.sink) c.in-Some.answer.text c.in-Err.field-0
    (rw c.bytes.ensures at c.in-Err.ensures) in
    Stopped-offered g.M.Machine.rules g.met.M.Machine.lawful _ _ _ _ _ _ c.in-Some.answer answers broke
