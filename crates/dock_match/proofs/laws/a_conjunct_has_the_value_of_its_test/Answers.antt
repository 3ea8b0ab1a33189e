use Rattle.std.proofs.Common.{[]}
use Rattle.ad_tree.specs.Tree.{tree}
use Rattle.conjunct_plan.specs.Tests.{labels_of}
use Rattle.eval_scope.specs.Shown.{world_of}
use Rattle.eval_scope.specs.World.{request_side, resource_side}
use Rattle.dock_match.specs.Docks.{last_ad}
use Rattle.dock_match.proofs.DecidedLemmas.{request-sees, resource-sees}
use Rattle.dock_match.proofs.TestLemmas.{conjunct-value}
use Rattle.dock_match.proofs.laws.a_conjunct_has_the_value_of_its_test.Goals as goal

pub returns : goal.returns
returns c =
    let w = world_of c.args.world.now in
    let t = tree c.args.expr.now in
    record {
      request = λ n test v some is has. conjunct-value w n (request_side w) w.request (labels_of w.ports) (last_ad w) 0 (request-sees w some) t test v is has;
      resource =
          λ n test v some is has. conjunct-value w n (resource_side w) (last_ad w) [] w.request (request_side w).frame (resource-sees w some) t test v is has;
    }
