use Rattle.std.proofs.Common.{Bor, Some, ap, arith, sym, ◌∙◌}
use Rattle.std.proofs.lemmas.Option.{slice_get-get_or}
use Rattle.ad_tree.specs.Tree.{tree}
use Rattle.ad_tree.specs.declared.tree.Expr.{Expr}
use Rattle.eval_scope.specs.Shown.{world_of}
use Rattle.match_explain.specs.Why.{holds}
use Rattle.match_explain.proofs.FailingLemmas.{found-here, none-more}
use Rattle.match_explain.proofs.failing.first_failing.Goals as goal

pub returns-then-not-branch-clause-found : goal.returns-then-not-branch-clause-found
returns-then-not-branch-clause-found g c =
    let xs = c.args.conjuncts.now in
    let x = c.index-conjuncts-i.result in
    ap Some c.in_ok-number.ensures
    ∙ sym (found-here (λ (e : Bor Expr). holds (world_of c.args.world.now) c.args.at (tree e.now)) xs c.loop-i.i x
    (slice_get-get_or xs c.loop-i.i x c.loop-i-test.true ∙ ap Some (sym c.index-conjuncts-i.is)) c.loop-i.invariant.none
    (sym c.in_ok-holds.ensures.holds ∙ c.if-not-branch.true))

pub loop-i-preserved : goal.loop-i-preserved
loop-i-preserved g c =
    let xs = c.args.conjuncts.now in
    let x = c.index-conjuncts-i.result in
    record {
      none = none-more (λ (e : Bor Expr). holds (world_of c.args.world.now) c.args.at (tree e.now)) xs c.loop-i.i x
          (slice_get-get_or xs c.loop-i.i x c.loop-i-test.true ∙ ap Some (sym c.index-conjuncts-i.is)) c.loop-i.invariant.none
          (sym c.in_ok-holds.ensures.holds ∙ c.if-not-branch.false);
      evaluations = omega (arith, c.loop-i.invariant.evaluations, c.holds.ensures.evaluations);
      ratio = λ small. omega (arith, c.loop-i.invariant.ratio small, c.holds.ensures.ratio small);
    }
