use Rattle.ad_tree.specs.Tree.{tree}
use Rattle.eval_scope.specs.Shown.{world_of}
use Rattle.ad_eval.specs.Value.{value_at}
use Rattle.dock_match.proofs.ConjunctLemmas.{conjuncts-true}
use Rattle.dock_match.proofs.laws.a_conjunction_is_true_only_where_its_conjuncts_are.Goals as goal

pub returns : goal.returns
returns c = λ n e. conjuncts-true (value_at n (world_of c.args.world.now)) (world_of c.args.world.now) c.args.at (tree c.args.expr.now) e
