use Rattle.std.proofs.Common.{false, refl}
use Rattle.eval_scope.specs.Shown.{world_of}
use Rattle.dock_match.proofs.MetLemmas.{both-closed, request-holds, resource-holds}
use Rattle.dock_match.proofs.laws.a_dock_whose_tests_are_all_met_is_true.Goals as goal

pub returns : goal.returns
returns c = record {
  request = λ some met. request-holds (world_of c.args.world.now) some met;
  resource = λ some met. resource-holds (world_of c.args.world.now) some met;
  dock = λ some left. both-closed (world_of c.args.world.now) some (record { request = false; resource = false }) left refl refl;
}
