use Rattle.std.proofs.Common.{◌≡◌, Bor, IfOk, List, ℕ, Option, ap, option_map, subst, sym, ◌∙◌}
use Rattle.pool_text.specs.declared.language.AdPlace.{AdPlace}
use Rattle.ad_tree.specs.Frames.{Frame}
use Rattle.ad_tree.specs.Tree.{Tree, tree}
use Rattle.ad_tree.specs.declared.tree.Expr.{Expr}
use Rattle.conjunct_plan.specs.Tests.{requirement_expr}
use Rattle.eval_scope.specs.Shown.{world_of}
use Rattle.eval_scope.specs.World.{resource_side}
use Rattle.match_explain.specs.Why.{first_failing, holds}
use Rattle.match_explain.proofs.FailingLemmas.{failing-found, failing-map}
use Rattle.match_explain.proofs.judging.resource_failing.Goals as goal

pub returns-clause-found : goal.returns-clause-found
returns-clause-found g c =
    let w = world_of c.args.world.now in
    let side = resource_side w in
    let es : List (Bor Expr) = c.in_ok-conjuncts.conjuncts.items in
    let t = tree c.in-Some.expr.now in
    let asked =
    ap (λ (fs : List Frame). requirement_expr fs 0) c.requires ∙ sym c.requirement.ensures
    ∙ ap (option_map (λ (e : Bor Expr). tree e.now)) c.in-Some.is in
    subst (λ (x : Option ℕ). IfOk c.first_failing.result (λ found. found ≡ x))
    (ap (λ (xs : List (Bor Expr)). first_failing (λ e. holds w c.resource_place.result (tree e.now)) xs) c.deref.ensures.value
    ∙ ap (λ (p : AdPlace). first_failing (λ (e : Bor Expr). holds w p (tree e.now)) es) c.resource_place.ensures
    ∙ sym (failing-map (holds w side) (λ (e : Bor Expr). tree e.now) es)
    ∙ ap (λ (ts : List Tree). first_failing (holds w side) ts) c.in_ok-conjuncts.ensures
    ∙ sym (failing-found w side t asked))
    c.first_failing.ensures.found
