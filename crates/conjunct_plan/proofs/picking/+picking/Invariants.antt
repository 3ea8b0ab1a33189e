use Rattle.std.proofs.Common.{◌≡◌, ◌+◌, ◌-◌, ◌*◌, ◌<◌, ◌^◌, drop, length, slice_get}
use Rattle.ad_tree.specs.Tree.{pack, size, size_all, tree, trees}
use Rattle.conjunct_plan.specs.Tests.{conjuncts_of_all}
use Rattle.conjunct_plan.proofs.picking.+picking.Given as goal

abbrev pub decreases-pick_of_all : goal.decreases-pick_of_all
decreases-pick_of_all l = 2 * size_all (pack (trees l.items.now)) + 1

abbrev pub decreases-pick : goal.decreases-pick
decreases-pick l = 2 * size (tree l.expr.now)

abbrev pub invariant-pick_of_all-loop-left : goal.invariant-pick_of_all-loop-left
invariant-pick_of_all-loop-left l = record {
  there : l.left < length (conjuncts_of_all (pack (drop l.i (trees l.items))));
  few : length (conjuncts_of_all (pack (drop l.i (trees l.items)))) < 2 ^ 32;
  same : slice_get (conjuncts_of_all (pack (drop l.i (trees l.items)))) l.left ≡ slice_get (conjuncts_of_all (pack (trees l.items))) l.fn.j;
}

abbrev pub decreases-pick_of_all-loop-left : goal.decreases-pick_of_all-loop-left
decreases-pick_of_all-loop-left l = length (trees l.items) - l.i
