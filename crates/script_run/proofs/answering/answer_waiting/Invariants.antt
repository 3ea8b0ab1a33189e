use Rattle.std.proofs.Common.{◌≡◌, ℕ, List, length}
use Rattle.pool_steps.specs.Spent.{IsPaid, IsSame}
use Rattle.pool_script.specs.Standing.{StandsFor}
use Rattle.script_run.specs.Effects.{effects_of}
use Rattle.script_run.proofs.RunningLemmas.{Running}
use Rattle.script_run.proofs.answering.answer_waiting.Given as goal

abbrev pub invariant-loop-refusals : goal.invariant-loop-refusals
invariant-loop-refusals g l = record {
  running : Running g.M.Machine.rules (g.M.Machine.state l.initial.machine (g.D.Notices.shows l.initial.desk))
      (g.M.Machine.state l.machine (g.D.Notices.shows l.desk))
      (effects_of (g.K.Sink.shows l.initial.sink) l.initial.meter (g.D.Notices.shows l.initial.desk))
      (effects_of (g.K.Sink.shows l.sink) l.meter (g.D.Notices.shows l.desk)) (g.M.Machine.held l.initial.machine).waiting
      (g.M.Machine.held l.machine).waiting l.before l.refused;
  same : IsSame l.initial.meter l.meter;
  ratio : IsPaid l.initial.meter l.meter;
  over : (g.M.Machine.held l.machine).over ≡ (g.M.Machine.held l.initial.machine).over;
  stands : (bytes : List ℕ) (n : ℕ) → StandsFor g.M.Machine.rules.given (g.M.Machine.held l.initial.machine) bytes n
      → (m : ℕ) × StandsFor g.M.Machine.rules.given (g.M.Machine.held l.machine) bytes m;
}

abbrev pub decreases-loop-refusals : goal.decreases-loop-refusals
decreases-loop-refusals g l = length (g.M.Machine.held l.machine).waiting
