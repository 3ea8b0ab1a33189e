use Rattle.eval_scope.specs.Shown.{world_of}
use Rattle.dock_match.proofs.DecidedLemmas.{not-docked}
use Rattle.dock_match.proofs.laws.a_decided_dock_is_never_true.Goals as goal

pub returns : goal.returns
returns c = λ some decided. not-docked (world_of c.args.world.now) some decided
