use Rattle.ad_tree.specs.Tree.{trees}
use Rattle.ad_tree.proofs.TreeLemmas.{size-at, height_of-at}
use Rattle.ad_tree.proofs.laws.expressions_are_within_their_list.Goals as goal

pub returns-clause-size : goal.returns-clause-size
returns-clause-size c = size-at (trees c.args.list.now)

pub returns-clause-height : goal.returns-clause-height
returns-clause-height c = height_of-at (trees c.args.list.now)
