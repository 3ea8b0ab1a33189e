use Rattle.std.proofs.Common.{◌≡◌, ◌+◌, ◌*◌, drop}
use Rattle.ad_tree.specs.Tree.{pack, size, size_all, tree, trees}
use Rattle.gang_ports.specs.FreePorts.{any_refers}
use Rattle.gang_ports.proofs.free_ports.+referring.Given as goal

abbrev pub decreases-any_refers : goal.decreases-any_refers
decreases-any_refers l = 2 * size_all (pack (trees l.list.now)) + 1

abbrev pub decreases-refers : goal.decreases-refers
decreases-refers l = 2 * size (tree l.expr.now)

-- the expressions so far don't have the label
abbrev pub invariant-any_refers-loop-i : goal.invariant-any_refers-loop-i
invariant-any_refers-loop-i l = any_refers l.label (pack (drop l.i (trees l.list))) ≡ any_refers l.label (pack (trees l.list))
