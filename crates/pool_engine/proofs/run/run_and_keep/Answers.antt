use Rattle.std.proofs.Common.{◌≢◌, ◌≤◌, IfSome, length, subst}
use Rattle.script_run.specs.declared.run_end.RunEnd.TheVariants.{WriteFault}
use Rattle.pool_engine.specs.CommandLine.{asked_text, input_of}
use Rattle.pool_engine.specs.declared.command_line.Asked.{Asked}
use Rattle.pool_engine.proofs.run.run_and_keep.Goals as goal

pub returns-in-Wire-clause-sure_sink : goal.returns-in-Wire-clause-sure_sink
returns-in-Wire-clause-sure_sink g c =
    subst
    (λ (asked : Asked). IfSome (input_of asked (g.S.Source.shows c.args.source.now).left)
    (λ bytes. length (asked_text asked (g.D.Notices.shows c.args.desk.now) bytes) ≤ (g.K.Sink.shows c.args.sink.now).sure
    → c.run_wire-end.result ≢ WriteFault))
    c.in-Wire.ensures.asked c.run_wire-end.ensures.sure_sink
