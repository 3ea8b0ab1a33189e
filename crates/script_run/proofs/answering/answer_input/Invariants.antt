use Rattle.std.proofs.Common.{◌≡◌, length}
use Rattle.pool_steps.specs.Spent.{IsPaid, IsSame}
use Rattle.script_run.specs.Effects.{effects_of}
use Rattle.script_run.proofs.ReadingLemmas.{Reading}
use Rattle.script_run.proofs.answering.answer_input.Given as goal

abbrev pub invariant-loop-left : goal.invariant-loop-left
invariant-loop-left g l = record {
  reading : Reading g.M.Machine.rules (g.M.Machine.state l.initial.machine (g.D.Notices.shows l.initial.desk)) (g.S.Source.shows l.initial.source)
      (g.S.Source.shows l.source) (effects_of (g.K.Sink.shows l.initial.sink) l.initial.meter (g.D.Notices.shows l.initial.desk))
      (effects_of (g.K.Sink.shows l.sink) l.meter (g.D.Notices.shows l.desk)) (g.M.Machine.held l.machine)
      (g.M.Machine.state l.machine (g.D.Notices.shows l.desk)) l.refused l.left;
  same : IsSame l.initial.meter l.meter;
  ratio : IsPaid l.initial.meter l.meter;
  room : length l.buffer ≡ 4096;
}

abbrev pub decreases-loop-left : goal.decreases-loop-left
decreases-loop-left g l = l.left
