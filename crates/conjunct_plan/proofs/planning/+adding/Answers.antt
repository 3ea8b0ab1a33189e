use Rattle.std.proofs.Common.{◌∙◌, arith}
use Rattle.ad_tree.specs.Ad.{ad_frames}
use Rattle.ad_tree.specs.Tree.{tree, trees}
use Rattle.ad_tree.proofs.TreeLemmas.{size-at}
use Rattle.conjunct_plan.specs.Tests.{labels_of, test_of}
use Rattle.conjunct_plan.proofs.TestLemmas.{added-behind}
use Rattle.conjunct_plan.proofs.planning.+adding.Goals as goal

pub add_all-add_tests-requires : goal.add_all-add_tests-requires
add_all-add_tests-requires t c =
    let smaller = size-at (trees c.args.items.now) c.loop-i.i (tree c.at.result.now) c.at.ensures in
    (omega arith, c.requires)

pub add_all-loop-i-preserved : goal.add_all-loop-i-preserved
add_all-loop-i-preserved t c =
    added-behind (test_of (ad_frames c.args.ad.now) c.args.frame (labels_of c.args.ports.now)) (trees c.args.items.now) c.loop-i.i (tree c.at.result.now)
    c.at.ensures
    _ _ c.in_ok-add_tests.ensures
    ∙ c.loop-i.invariant
