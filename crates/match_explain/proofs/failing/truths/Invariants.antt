use Rattle.std.proofs.Common.{◌≡◌, ◌≤◌, ◌+◌, ◌*◌, map, take}
use Rattle.ad_eval.specs.Small.{AreSmall}
use Rattle.ad_tree.specs.Tree.{tree}
use Rattle.eval_scope.specs.Shown.{world_of}
use Rattle.match_explain.specs.Why.{holds}
use Rattle.match_explain.proofs.failing.truths.Given as goal

abbrev pub invariant-loop-conjunct : goal.invariant-loop-conjunct
invariant-loop-conjunct g l = record {
  truths : l.truths.items ≡ map (λ e. holds (world_of l.world) l.at (tree e.now)) (take l.conjunct-index l.conjuncts);
  evaluations : l.tops ≤ l.initial.tops + l.conjunct-index;
  ratio : AreSmall (world_of l.world) → l.entry + 9216 * l.initial.tops ≤ l.initial.entry + 9216 * l.tops;
}
