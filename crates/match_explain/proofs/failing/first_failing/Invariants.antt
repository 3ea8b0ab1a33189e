use Rattle.std.proofs.Common.{◌≡◌, ◌≤◌, ◌+◌, ◌*◌, None, take}
use Rattle.ad_eval.specs.Small.{AreSmall}
use Rattle.ad_tree.specs.Tree.{tree}
use Rattle.eval_scope.specs.Shown.{world_of}
use Rattle.match_explain.specs.Why.{first_failing, holds}
use Rattle.match_explain.proofs.failing.first_failing.Given as goal

abbrev pub invariant-loop-i : goal.invariant-loop-i
invariant-loop-i g l = record {
  none : first_failing (λ e. holds (world_of l.world) l.at (tree e.now)) (take l.i l.conjuncts) ≡ None;
  evaluations : l.tops ≤ l.initial.tops + l.i;
  ratio : AreSmall (world_of l.world) → l.entry + 9216 * l.initial.tops ≤ l.initial.entry + 9216 * l.tops;
}
