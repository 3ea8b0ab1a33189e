use Rattle.std.proofs.Common.{arith}
use Rattle.ad_tree.specs.Tree.{tree, trees}
use Rattle.ad_tree.proofs.TreeLemmas.{size-at}
use Rattle.significant_attrs.proofs.digests.+digesting.Goals as goal

pub of_all-of_expr-sum-requires : goal.of_all-of_expr-sum-requires
of_all-of_expr-sum-requires t c = omega (arith, c.decreases, size-at (trees c.args.list.now) c.loop-i.i (tree c.at.result.now) c.at.ensures)
