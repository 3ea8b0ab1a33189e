use Rattle.std.proofs.Common.{◌≡◌, ◌+◌, ◌*◌, take}
use Rattle.ad_tree.specs.Tree.{pack, size, size_all, tree, trees}
use Rattle.ad_tree.proofs.alike.+alike.Given as goal

abbrev pub decreases-same_expr : goal.decreases-same_expr
decreases-same_expr l = 2 * size (tree l.a.now)

abbrev pub decreases-same_two : goal.decreases-same_two
decreases-same_two l = 2 * (size (tree l.a.now) + size (tree l.b.now)) + 1

abbrev pub decreases-same_all : goal.decreases-same_all
decreases-same_all l = 2 * size_all (pack (trees l.a.now)) + 1

abbrev pub invariant-same_all-loop-i : goal.invariant-same_all-loop-i
invariant-same_all-loop-i l = take l.i (trees l.a) ≡ take l.i (trees l.b)
