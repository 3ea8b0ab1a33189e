use Rattle.std.proofs.Common.{refl}
use Rattle.ad_tree.specs.Tree.{tree}
use Rattle.eval_scope.specs.Shown.{world_of}
use Rattle.eval_scope.specs.World.{frame_of_attribute}
use Rattle.ad_eval.specs.declared.scene.Scene.{Scene as TheScene}
use Rattle.ad_eval.specs.Scene.{values_in, world_in}
use Rattle.ad_eval.specs.Value.{evaluation_at}
use Rattle.ad_eval.proofs.EnterLemmas.{world_has}
use Rattle.ad_eval.proofs.TopLemmas.{entered_first, evaluation_is, ready_first, result_of}
use Rattle.ad_eval.proofs.top.by_expression.Goals as goal

pub evaluate-evaluated-requires : goal.evaluate-evaluated-requires
evaluate-evaluated-requires g c =
    let pos = c.args.pos in
    let s : TheScene = record { alloc = c.args.alloc; world = c.args.world; at = frame_of_attribute pos; left = 23 } in
    let x = tree c.expr_at-expr.result.now in
    ready_first s pos x (world_has s pos x c.expr_at-expr.ensures.expr) refl c.new-guard.result c.enter.new.self c.new-guard.ensures c.in_ok-enter.ensures.ok

pub returns-clause-value : goal.returns-clause-value
returns-clause-value g c =
    let pos = c.args.pos in
    let s : TheScene = record { alloc = c.args.alloc; world = c.args.world; at = frame_of_attribute pos; left = 23 } in
    let x = tree c.expr_at-expr.result.now in
    result_of (world_in s) (values_in s x) 23 c.enter.new.self c.evaluate-evaluated.new.guard c.evaluate-evaluated.result c.value_or_error.result
    (evaluation_at (world_of c.args.world.now) pos) (evaluation_is s pos x (world_has s pos x c.expr_at-expr.ensures.expr) refl)
    c.evaluate-evaluated.ensures.answer c.value_or_error.ensures

pub returns-clause-entries : goal.returns-clause-entries
returns-clause-entries g c =
    let pos = c.args.pos in
    let s : TheScene = record { alloc = c.args.alloc; world = c.args.world; at = frame_of_attribute pos; left = 23 } in
    let x = tree c.expr_at-expr.result.now in
    entered_first s pos x (world_has s pos x c.expr_at-expr.ensures.expr) refl c.new-guard.result c.enter.new.self c.new-guard.ensures c.in_ok-enter.ensures.ok
    c.args.entry.now c.expr_at-expr.new.entry c.evaluate-evaluated.new.entry c.evaluate-evaluated.new.guard c.expr_at-expr.ensures.counted
    c.evaluate-evaluated.ensures.counted
