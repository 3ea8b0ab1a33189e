use Rattle.ad_tree.specs.Tree.{tree}
use Rattle.eval_scope.specs.Shown.{world_of}
use Rattle.ad_eval.specs.Value.{references, value_at, value_with}
use Rattle.ad_eval.proofs.LightLemmas.{light-or_error, value_at-light, value_with-light}
use Rattle.ad_eval.proofs.laws.values_are_light.Goals as goal

pub returns : goal.returns
returns c =
    let w = world_of c.args.world.now in
    record {
      expression = λ written light.
          light-or_error (value_with references w c.args.at (tree c.args.expr.now))
          (value_with-light w written references c.args.at (tree c.args.expr.now) light);
      attribute = λ written s. light-or_error (value_at references w s) (value_at-light w written references s);
      kept = λ written n s. value_at-light w written n s;
    }
