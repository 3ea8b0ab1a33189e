use Rattle.std.proofs.Common.{◌+◌, ◌*◌}
use Rattle.ad_tree.specs.Tree.{pack, size, size_all, tree, trees}
use Rattle.significant_attrs.proofs.digests.+digesting.Given as goal

abbrev pub decreases-of_expr : goal.decreases-of_expr
decreases-of_expr l = 2 * size (tree l.expr.now)

abbrev pub decreases-of_two : goal.decreases-of_two
decreases-of_two l = 2 * (size (tree l.a.now) + size (tree l.b.now)) + 1

abbrev pub decreases-of_all : goal.decreases-of_all
decreases-of_all l = 2 * size_all (pack (trees l.list.now)) + 1
