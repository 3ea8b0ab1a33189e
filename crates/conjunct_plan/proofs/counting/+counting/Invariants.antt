use Rattle.std.proofs.Common.{◌≡◌, ◌+◌, ◌*◌, drop, length}
use Rattle.ad_tree.specs.Tree.{pack, size, size_all, tree, trees}
use Rattle.conjunct_plan.specs.Tests.{conjuncts_of_all}
use Rattle.conjunct_plan.proofs.counting.+counting.Given as goal

abbrev pub decreases-count_all : goal.decreases-count_all
decreases-count_all l = 2 * size_all (pack (trees l.items.now)) + 1

abbrev pub decreases-count : goal.decreases-count
decreases-count l = 2 * size (tree l.expr.now)

abbrev pub invariant-count_all-loop-i : goal.invariant-count_all-loop-i
invariant-count_all-loop-i l = l.total + length (conjuncts_of_all (pack (drop l.i (trees l.items)))) ≡ length (conjuncts_of_all (pack (trees l.items)))
