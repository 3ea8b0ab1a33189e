use Rattle.std.proofs.Common.{◌≡◌, ◌+◌, ◌*◌, ◌&&◌, drop}
use Rattle.std.specs.List.{filter_map, list_all, list_any}
use Rattle.ad_tree.specs.Ad.{ad_frames}
use Rattle.ad_tree.specs.Tree.{pack, size, size_all, tree, trees}
use Rattle.conjunct_plan.specs.Decided.{is_decided, is_met_test, verdict_by, verdict_on}
use Rattle.conjunct_plan.specs.Tests.{conjuncts_of_all, labels_of, test_of}
use Rattle.conjunct_plan.proofs.ruling.+ruling.Given as goal

abbrev pub decreases-verdict_on_all : goal.decreases-verdict_on_all
decreases-verdict_on_all l = 2 * size_all (pack (trees l.items.now)) + 1

abbrev pub decreases-verdict_on : goal.decreases-verdict_on
decreases-verdict_on l = 2 * size (tree l.expr.now)

abbrev pub invariant-verdict_on_all-loop-i : goal.invariant-verdict_on_all-loop-i
invariant-verdict_on_all-loop-i l =
    verdict_by (list_any (λ test. is_decided test (ad_frames l.other) l.at)
    (filter_map (test_of (ad_frames l.ad) l.frame (labels_of l.ports)) (conjuncts_of_all (pack (drop l.i (trees l.items))))))
    (l.met && list_all (is_met_test (ad_frames l.ad) l.frame (labels_of l.ports) (ad_frames l.other) l.at) (conjuncts_of_all (pack (drop l.i (trees l.items)))))
    ≡ verdict_on (ad_frames l.ad) l.frame (labels_of l.ports) (ad_frames l.other) l.at (conjuncts_of_all (pack (trees l.items)))
