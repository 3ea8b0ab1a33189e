use Rattle.claim_wire.specs.Wires.{new_wire}
use Rattle.script_run.specs.Effects.{effects_of}
use Rattle.script_run.proofs.ReadingLemmas.{Ends-none}
use Rattle.run_rules.specs.WireRules.{wire_rules}
use Rattle.run_rules.proofs.WireLemmas.{wire_lawful}
use Rattle.pool_engine.proofs.run.run_wire.Goals as goal

pub returns-in_default-clause-ends : goal.returns-in_default-clause-ends
returns-in_default-clause-ends g c =
    Ends-none wire_rules wire_lawful (new_wire c.args.size.resources c.args.size.customers) (g.S.Source.shows c.args.source.now)
    (effects_of (g.K.Sink.shows c.args.sink.now) c.args.meter.now (g.D.Notices.shows c.args.desk.now))
