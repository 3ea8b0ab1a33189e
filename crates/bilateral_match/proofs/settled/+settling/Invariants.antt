use Rattle.std.proofs.Common.{◌≡◌, ◌+◌, ◌*◌, drop}
use Rattle.ad_tree.specs.Ad.{ad_frames}
use Rattle.ad_tree.specs.Tree.{pack, size, size_all, tree, trees}
use Rattle.bilateral_match.specs.Known.{are_settled}
use Rattle.bilateral_match.proofs.settled.+settling.Given as goal

abbrev pub decreases-is_settled : goal.decreases-is_settled
decreases-is_settled l = 2 * size (tree l.expr.now)

abbrev pub decreases-are_settled : goal.decreases-are_settled
decreases-are_settled l = 2 * size_all (pack (trees l.items.now)) + 1

abbrev pub invariant-are_settled-loop-i : goal.invariant-are_settled-loop-i
invariant-are_settled-loop-i l = are_settled (ad_frames l.ad) (pack (drop l.i (trees l.items))) ≡ are_settled (ad_frames l.ad) (pack (trees l.items))
