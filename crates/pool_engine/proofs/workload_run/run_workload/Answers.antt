use Rattle.std.proofs.Common.{ap}
use Rattle.script_run.specs.Effects.{effects_of}
use Rattle.pool_engine.proofs.SummingLemmas.{done-read, done-words, done-write, memory-read, memory-words, memory-write, write-read, write-words}
use Rattle.pool_engine.proofs.SummingLemmas.{Workload-unprinted, from_err}
use Rattle.pool_engine.proofs.workload_run.run_workload.Goals as goal

pub returns-in_default-offer_summary-clause-ends : goal.returns-in_default-offer_summary-clause-ends
returns-in_default-offer_summary-clause-ends g c =
    let unwritten = from_err c.offer_summary.result _ c.in_default-offer_summary.is c.offer_summary.ensures.unwritten in
    Workload-unprinted c.args.machines (effects_of (g.K.Sink.shows c.args.sink.now) c.args.meter.now (g.D.Notices.shows c.args.desk.now))
    (effects_of (g.K.Sink.shows c.offer_summary.new.sink) c.summed.new.meter (g.D.Notices.shows c.summed.new.desk)) c.in-Ok.ensures.took.0
    c.in-Ok.summary.refused (ap g.K.Sink.shows unwritten) c.in-Ok.ensures.took.1

pub returns-in_default-clause-words : goal.returns-in_default-clause-words
returns-in_default-clause-words g c = memory-words

pub returns-in_default-clause-sure_source : goal.returns-in_default-clause-sure_source
returns-in_default-clause-sure_source g c = memory-read

pub returns-in_default-clause-sure_sink : goal.returns-in_default-clause-sure_sink
returns-in_default-clause-sure_sink g c = λ sure. memory-write

pub returns-in_default-offer_summary-clause-words : goal.returns-in_default-offer_summary-clause-words
returns-in_default-offer_summary-clause-words g c = memory-words

pub returns-in_default-offer_summary-clause-sure_source : goal.returns-in_default-offer_summary-clause-sure_source
returns-in_default-offer_summary-clause-sure_source g c = memory-read

pub returns-in_default-offer_summary-clause-sure_sink : goal.returns-in_default-offer_summary-clause-sure_sink
returns-in_default-offer_summary-clause-sure_sink g c = λ sure. memory-write

pub returns-in_default-offered-clause-words : goal.returns-in_default-offered-clause-words
returns-in_default-offered-clause-words g c = write-words

pub returns-in_default-offered-clause-sure_source : goal.returns-in_default-offered-clause-sure_source
returns-in_default-offered-clause-sure_source g c = write-read

pub returns-clause-words : goal.returns-clause-words
returns-clause-words g c = done-words _

pub returns-clause-sure_source : goal.returns-clause-sure_source
returns-clause-sure_source g c = done-read _

pub returns-clause-sure_sink : goal.returns-clause-sure_sink
returns-clause-sure_sink g c = λ sure. done-write _
