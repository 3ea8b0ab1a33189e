use Rattle.std.proofs.Common.{Err, ap}
use Rattle.script_run.specs.declared.run_end.RunEnd.TheVariants.{Done}
use Rattle.script_run.specs.Effects.{effects_of}
use Rattle.script_run.proofs.EndLemmas.{Ends-answered, Ends-length, Ends-reads, Ends-sure}
use Rattle.script_run.proofs.answering.run.Goals as goal

pub returns-in-Err-clause-sure_sink : goal.returns-in-Err-clause-sure_sink
returns-in-Err-clause-sure_sink g c =
    Ends-sure g.M.Machine.rules g.met.M.Machine.lawful (g.M.Machine.state c.args.machine.now (g.D.Notices.shows c.args.desk.now))
    (g.S.Source.shows c.args.source.now) (g.S.Source.shows c.answer_input.new.source)
    (effects_of (g.K.Sink.shows c.args.sink.now) c.args.meter.now (g.D.Notices.shows c.args.desk.now))
    (effects_of (g.K.Sink.shows c.answer_input.new.sink) c.answer_input.new.meter (g.D.Notices.shows c.answer_input.new.desk)) c.in-Err.end
    c.in-Err.ensures.ends

pub returns-in-Ok-clause-too_long : goal.returns-in-Ok-clause-too_long
returns-in-Ok-clause-too_long g c =
    Ends-length g.M.Machine.rules g.met.M.Machine.lawful (g.M.Machine.state c.args.machine.now (g.D.Notices.shows c.args.desk.now))
    (g.S.Source.shows c.args.source.now) (g.S.Source.shows c.answer_input.new.source)
    (effects_of (g.K.Sink.shows c.args.sink.now) c.args.meter.now (g.D.Notices.shows c.args.desk.now))
    (effects_of (g.K.Sink.shows c.answer_input.new.sink) c.answer_input.new.meter (g.D.Notices.shows c.answer_input.new.desk))
    (Done c.in-Ok.refused) c.in-Ok.ensures.ends

pub returns-in-Ok-clause-reads : goal.returns-in-Ok-clause-reads
returns-in-Ok-clause-reads g c =
    Ends-reads g.M.Machine.rules g.met.M.Machine.lawful (g.M.Machine.state c.args.machine.now (g.D.Notices.shows c.args.desk.now))
    (g.S.Source.shows c.args.source.now) (g.S.Source.shows c.answer_input.new.source)
    (effects_of (g.K.Sink.shows c.args.sink.now) c.args.meter.now (g.D.Notices.shows c.args.desk.now))
    (effects_of (g.K.Sink.shows c.answer_input.new.sink) c.answer_input.new.meter (g.D.Notices.shows c.answer_input.new.desk))
    (Done c.in-Ok.refused) c.in-Ok.ensures.ends

pub returns-in-Err-clause-too_long : goal.returns-in-Err-clause-too_long
returns-in-Err-clause-too_long g c =
    Ends-length g.M.Machine.rules g.met.M.Machine.lawful (g.M.Machine.state c.args.machine.now (g.D.Notices.shows c.args.desk.now))
    (g.S.Source.shows c.args.source.now) (g.S.Source.shows c.answer_input.new.source)
    (effects_of (g.K.Sink.shows c.args.sink.now) c.args.meter.now (g.D.Notices.shows c.args.desk.now))
    (effects_of (g.K.Sink.shows c.answer_input.new.sink) c.answer_input.new.meter (g.D.Notices.shows c.answer_input.new.desk)) c.in-Err.end
    c.in-Err.ensures.ends

pub returns-in-Err-clause-reads : goal.returns-in-Err-clause-reads
returns-in-Err-clause-reads g c =
    Ends-reads g.M.Machine.rules g.met.M.Machine.lawful (g.M.Machine.state c.args.machine.now (g.D.Notices.shows c.args.desk.now))
    (g.S.Source.shows c.args.source.now) (g.S.Source.shows c.answer_input.new.source)
    (effects_of (g.K.Sink.shows c.args.sink.now) c.args.meter.now (g.D.Notices.shows c.args.desk.now))
    (effects_of (g.K.Sink.shows c.answer_input.new.sink) c.answer_input.new.meter (g.D.Notices.shows c.answer_input.new.desk)) c.in-Err.end
    c.in-Err.ensures.ends

pub returns-in-Err-clause-answered : goal.returns-in-Err-clause-answered
returns-in-Err-clause-answered g c =
    Ends-answered g.M.Machine.rules g.met.M.Machine.lawful (g.M.Machine.state c.args.machine.now (g.D.Notices.shows c.args.desk.now))
    (g.S.Source.shows c.args.source.now) (g.S.Source.shows c.answer_input.new.source)
    (effects_of (g.K.Sink.shows c.args.sink.now) c.args.meter.now (g.D.Notices.shows c.args.desk.now))
    (effects_of (g.K.Sink.shows c.answer_input.new.sink) c.answer_input.new.meter (g.D.Notices.shows c.answer_input.new.desk)) c.in-Err.end
    c.in-Err.ensures.ends (λ is. c.in-Err.ensures.words (ap Err is))
