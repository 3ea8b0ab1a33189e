use Rattle.std.proofs.Common.{◌∙◌, sym, ap, slice_get, ◌+◌, ◌-◌, arith}
use Rattle.ad_tree.specs.Tree.{tree, trees}
use Rattle.ad_tree.proofs.TreeLemmas.{size-at}
use Rattle.conjunct_plan.specs.Tests.{conjuncts}
use Rattle.conjunct_plan.proofs.ChainLemmas.{at-first, at-second, count-here, left, left-here}
use Rattle.conjunct_plan.proofs.picking.+picking.Goals as goal

pub pick_of_all-count-many-requires : goal.pick_of_all-count-many-requires
pick_of_all-count-many-requires t c =
    omega (arith, count-here (trees c.args.items.now) c.loop-left.i (tree c.at-item.result.now) c.at-item.ensures, c.loop-left.invariant.few)

pub pick_of_all-pick-requires : goal.pick_of_all-pick-requires
pick_of_all-pick-requires t c =
    let ts = trees c.args.items.now in
    let item = tree c.at-item.result.now in
    let smaller = size-at ts c.loop-left.i item c.at-item.ensures in
    let here = count-here ts c.loop-left.i item c.at-item.ensures in
    (omega arith, (omega (arith, here, c.loop-left.invariant.few), omega (arith, c.count-many.ensures, c.if-left-many.true)))

pub pick_of_all-returns-then-left-many : goal.pick_of_all-returns-then-left-many
pick_of_all-returns-then-left-many t c =
    let ts = trees c.args.items.now in
    let item = tree c.at-item.result.now in
    let i = c.loop-left.i in
    sym c.loop-left.invariant.same
    ∙ ap (λ xs. slice_get xs c.loop-left.left) (left-here ts i item c.at-item.ensures)
    ∙ at-first (conjuncts item) (left ts (i + 1)) c.loop-left.left (omega (arith, c.count-many.ensures, c.if-left-many.true))
    ∙ c.pick.ensures

pub pick_of_all-loop-left-preserved : goal.pick_of_all-loop-left-preserved
pick_of_all-loop-left-preserved t c =
    let ts = trees c.args.items.now in
    let item = tree c.at-item.result.now in
    let i = c.loop-left.i in
    let here = count-here ts i item c.at-item.ensures in
    record {
      there = omega (arith, here, c.count-many.ensures, c.if-left-many.false, c.loop-left.invariant.there);
      few = omega (arith, here, c.loop-left.invariant.few);
      same =
          sym (at-second (conjuncts item) (left ts (i + 1)) c.loop-left.left (c.loop-left.left - c.count-many.result)
          (omega (arith, c.count-many.ensures, c.if-left-many.false)))
          ∙ ap (λ xs. slice_get xs c.loop-left.left) (sym (left-here ts i item c.at-item.ensures))
          ∙ c.loop-left.invariant.same;
    }
