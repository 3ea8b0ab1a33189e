use Rattle.std.proofs.Common.{◌≡◌, ◌++◌, ◌+◌, ◌*◌, drop}
use Rattle.std.specs.List.{filter_map}
use Rattle.ad_tree.specs.Ad.{ad_frames}
use Rattle.ad_tree.specs.Tree.{pack, size, size_all, tree, trees}
use Rattle.conjunct_plan.specs.Tests.{conjuncts_of_all, labels_of, test_of}
use Rattle.conjunct_plan.proofs.planning.+adding.Given as goal

abbrev pub decreases-add_all : goal.decreases-add_all
decreases-add_all l = 2 * size_all (pack (trees l.items.now)) + 1

abbrev pub decreases-add_tests : goal.decreases-add_tests
decreases-add_tests l = 2 * size (tree l.expr.now)

abbrev pub invariant-add_all-loop-i : goal.invariant-add_all-loop-i
invariant-add_all-loop-i l =
    l.tests ++ filter_map (test_of (ad_frames l.ad) l.frame (labels_of l.ports)) (conjuncts_of_all (pack (drop l.i (trees l.items))))
    ≡ l.initial.tests ++ filter_map (test_of (ad_frames l.ad) l.frame (labels_of l.ports)) (conjuncts_of_all (pack (trees l.items)))
