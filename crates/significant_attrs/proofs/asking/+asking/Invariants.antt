use Rattle.std.proofs.Common.{◌≡◌, ◌+◌, ◌*◌, ◌++◌, drop}
use Rattle.ad_tree.specs.Tree.{pack, size, size_all, tree, trees}
use Rattle.significant_attrs.specs.Names.{asked_in_all}
use Rattle.significant_attrs.proofs.asking.+asking.Given as goal

abbrev pub decreases-add_of : goal.decreases-add_of
decreases-add_of l = 4 * size (tree l.expr.now)

abbrev pub decreases-add_of_two : goal.decreases-add_of_two
decreases-add_of_two l = 4 * (size (tree l.a.now) + size (tree l.b.now)) + 1

abbrev pub decreases-add_of_three : goal.decreases-add_of_three
decreases-add_of_three l = 4 * (size (tree l.a.now) + (size (tree l.b.now) + size (tree l.c.now))) + 2

abbrev pub decreases-add_of_all : goal.decreases-add_of_all
decreases-add_of_all l = 4 * size_all (pack (trees l.list.now)) + 1

-- what was added, and what is left
abbrev pub invariant-add_of_all-loop-i : goal.invariant-add_of_all-loop-i
invariant-add_of_all-loop-i l = l.names ++ asked_in_all (pack (drop l.i (trees l.list))) ≡ l.initial.names ++ asked_in_all (pack (trees l.list))
