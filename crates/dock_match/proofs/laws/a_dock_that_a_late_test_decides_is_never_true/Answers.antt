use Rattle.ad_tree.specs.Tree.{tree}
use Rattle.eval_scope.specs.Shown.{world_of}
use Rattle.dock_match.proofs.LateLemmas.{late-value, ruled-undocked}
use Rattle.dock_match.proofs.laws.a_dock_that_a_late_test_decides_is_never_true.Goals as goal

pub returns : goal.returns
returns c = record {
  value = λ n ad test v is has. late-value (world_of c.args.world.now) ad n (tree c.args.expr.now) test v is has;
  dock = λ ad ruled. ruled-undocked (world_of c.args.world.now) ad ruled;
}
