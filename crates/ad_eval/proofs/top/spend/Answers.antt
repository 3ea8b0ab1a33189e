use Rattle.std.proofs.Common.{unwrap_or, ap, arith}
use Rattle.ad_tree.specs.Tree.{tree}
use Rattle.ad_value.specs.Plain.{error}
use Rattle.ad_eval.specs.declared.scene.Scene.{Scene as TheScene}
use Rattle.eval_scope.specs.Shown.{world_of}
use Rattle.ad_eval.specs.Scene.{values_in, world_in}
use Rattle.ad_eval.specs.Value.{value_with}
use Rattle.ad_eval.proofs.TopLemmas.{entered-in, few-attributes, ready_new, result_of, scene_values}
use Rattle.ad_eval.proofs.top.spend.Goals as goal

pub evaluate-evaluated-requires : goal.evaluate-evaluated-requires
evaluate-evaluated-requires g c =
    let s : TheScene = c.args.scene.now in
    ready_new (world_in s) c.new-guard.result (values_in s (tree c.args.expr.now)) c.new-guard.ensures

pub returns-clause-value : goal.returns-clause-value
returns-clause-value g c =
    let s : TheScene = c.args.scene.now in
    let e = tree c.args.expr.now in
    result_of (world_in s) (values_in s e) s.left c.new-guard.result c.evaluate-evaluated.new.guard c.evaluate-evaluated.result c.value_or_error.result
    (unwrap_or (value_with s.left (world_of s.world.now) s.at e) error) (ap (λ o. unwrap_or o error) (scene_values s e s.left))
    c.evaluate-evaluated.ensures.answer c.value_or_error.ensures

pub returns-clause-entries : goal.returns-clause-entries
returns-clause-entries g c =
    let s : TheScene = c.args.scene.now in
    entered-in s c.args.entry.now c.evaluate-evaluated.new.entry c.new-guard.result c.evaluate-evaluated.new.guard c.evaluate-evaluated.ensures.counted

pub returns-clause-ratio : goal.returns-clause-ratio
returns-clause-ratio g c small =
    let s : TheScene = c.args.scene.now in
    omega (
      arith,
      c.tick.ensures,
      few-attributes s.world.now small,
      entered-in s c.args.entry.now c.evaluate-evaluated.new.entry c.new-guard.result c.evaluate-evaluated.new.guard c.evaluate-evaluated.ensures.counted,
    )
