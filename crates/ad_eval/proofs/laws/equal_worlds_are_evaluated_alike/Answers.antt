use Rattle.std.proofs.Common.{ap}
use Rattle.ad_tree.specs.Tree.{tree}
use Rattle.eval_scope.specs.World.{PlainWorld}
use Rattle.ad_eval.specs.Dock.{is_docked, meets_requirement, rank_by}
use Rattle.ad_eval.specs.Value.{evaluation}
use Rattle.ad_eval.proofs.laws.equal_worlds_are_evaluated_alike.Goals as goal

pub returns : goal.returns
returns c = record {
  value = λ same. ap (λ (w : PlainWorld). evaluation w c.args.at (tree c.args.expr.now)) same;
  requirement = λ same. ap (λ (w : PlainWorld). meets_requirement w c.args.at) same;
  rank = λ same. ap (λ (w : PlainWorld). rank_by w c.args.at) same;
  dock = λ same. ap is_docked same;
}
