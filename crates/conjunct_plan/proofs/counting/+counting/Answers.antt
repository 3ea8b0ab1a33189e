use Rattle.std.proofs.Common.{arith}
use Rattle.ad_tree.specs.Tree.{tree, trees}
use Rattle.ad_tree.proofs.TreeLemmas.{size-at}
use Rattle.conjunct_plan.proofs.ChainLemmas.{count-here}
use Rattle.conjunct_plan.proofs.counting.+counting.Goals as goal

pub count_all-count-total-requires : goal.count_all-count-total-requires
count_all-count-total-requires t c =
    let ts = trees c.args.items.now in
    let smaller = size-at ts c.loop-i.i (tree c.at.result.now) c.at.ensures in
    let here = count-here ts c.loop-i.i (tree c.at.result.now) c.at.ensures in
    (omega arith, omega (arith, here, c.loop-i.invariant, c.requires))

pub count_all-overflow_add-total : goal.count_all-overflow_add-total
count_all-overflow_add-total t c =
    omega (arith, count-here (trees c.args.items.now) c.loop-i.i (tree c.at.result.now) c.at.ensures, c.loop-i.invariant, c.requires, c.count-total.ensures)

pub count_all-loop-i-preserved : goal.count_all-loop-i-preserved
count_all-loop-i-preserved t c =
    omega (arith, count-here (trees c.args.items.now) c.loop-i.i (tree c.at.result.now) c.at.ensures, c.loop-i.invariant, c.count-total.ensures)
