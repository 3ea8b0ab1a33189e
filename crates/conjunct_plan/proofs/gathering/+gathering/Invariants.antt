use Rattle.std.proofs.Common.{◌≡◌, ◌+◌, ◌*◌, ◌++◌, drop, map}
use Rattle.ad_tree.specs.Tree.{pack, size, size_all, tree, trees}
use Rattle.conjunct_plan.specs.Tests.{conjuncts_of_all}
use Rattle.conjunct_plan.proofs.gathering.+gathering.Given as goal

abbrev pub decreases-gather_all : goal.decreases-gather_all
decreases-gather_all l = 2 * size_all (pack (trees l.items.now)) + 1

abbrev pub decreases-gather : goal.decreases-gather
decreases-gather l = 2 * size (tree l.expr.now)

abbrev pub invariant-gather_all-loop-i : goal.invariant-gather_all-loop-i
invariant-gather_all-loop-i l =
    map (λ e. tree e.now) l.found.items ++ conjuncts_of_all (pack (drop l.i (trees l.items)))
    ≡ map (λ e. tree e.now) l.initial.found.items ++ conjuncts_of_all (pack (trees l.items))
