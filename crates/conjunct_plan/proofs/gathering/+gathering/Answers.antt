use Rattle.std.proofs.Common.{◌∙◌, arith}
use Rattle.ad_tree.specs.Tree.{tree, trees}
use Rattle.ad_tree.proofs.TreeLemmas.{size-at}
use Rattle.conjunct_plan.proofs.ChainLemmas.{gathered-here}
use Rattle.conjunct_plan.proofs.gathering.+gathering.Goals as goal

pub gather_all-gather-requires : goal.gather_all-gather-requires
gather_all-gather-requires t c =
    let smaller = size-at (trees c.args.items.now) c.loop-i.i (tree c.at.result.now) c.at.ensures in
    omega arith

pub gather_all-loop-i-preserved : goal.gather_all-loop-i-preserved
gather_all-loop-i-preserved t c =
    gathered-here (trees c.args.items.now) c.loop-i.i (tree c.at.result.now) c.at.ensures _ _ c.in_ok-gather.ensures ∙ c.loop-i.invariant
