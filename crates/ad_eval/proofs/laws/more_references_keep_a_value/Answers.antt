use Rattle.ad_tree.specs.Tree.{tree}
use Rattle.eval_scope.specs.Shown.{world_of}
use Rattle.ad_eval.proofs.MoreLemmas.{value_at-more_references, value_with-more_references}
use Rattle.ad_eval.proofs.laws.more_references_keep_a_value.Goals as goal

pub returns : goal.returns
returns c = record {
  expression = λ n m v le e. value_with-more_references (world_of c.args.world.now) c.args.at (tree c.args.expr.now) n m v le e;
  attribute = λ s n m v le e. value_at-more_references (world_of c.args.world.now) s n m v le e;
}
