use Rattle.std.proofs.Common.{◌∙◌, arith, false, sym, true}
use Rattle.ad_tree.specs.Ad.{ad_frames}
use Rattle.ad_tree.specs.Tree.{tree, trees}
use Rattle.ad_tree.proofs.TreeLemmas.{size-at}
use Rattle.bilateral_match.proofs.KnownLemmas.{settled-at}
use Rattle.bilateral_match.proofs.settled.+settling.Goals as goal

pub are_settled-is_settled-requires : goal.are_settled-is_settled-requires
are_settled-is_settled-requires t c =
    let smaller = size-at (trees c.args.items.now) c.loop-i.i (tree c.at.result.now) c.at.ensures in
    (omega arith, tt)

pub are_settled-returns-then-not-is_settled : goal.are_settled-returns-then-not-is_settled
are_settled-returns-then-not-is_settled t c =
    sym (settled-at (ad_frames c.args.ad.now) (trees c.args.items.now) c.loop-i.i (tree c.at.result.now) false c.at.ensures c.if-not-is_settled.ensures)
    ∙ c.loop-i.invariant

pub are_settled-loop-i-preserved : goal.are_settled-loop-i-preserved
are_settled-loop-i-preserved t c =
    sym (settled-at (ad_frames c.args.ad.now) (trees c.args.items.now) c.loop-i.i (tree c.at.result.now) true c.at.ensures c.if-not-is_settled.ensures)
    ∙ c.loop-i.invariant
