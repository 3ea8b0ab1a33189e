use Rattle.std.proofs.Common.{arith, sym, ◌∙◌}
use Rattle.ad_tree.specs.Tree.{tree, trees}
use Rattle.ad_tree.proofs.TreeLemmas.{size-at}
use Rattle.gang_ports.proofs.ReferenceLemmas.{tree-found, tree-next}
use Rattle.gang_ports.proofs.free_ports.+referring.Goals as goal

pub any_refers-refers-requires : goal.any_refers-refers-requires
any_refers-refers-requires t c = omega (arith, c.decreases, size-at (trees c.args.list.now) c.loop-i.i (tree c.at.result.now) c.at.ensures)

pub any_refers-returns-then-refers : goal.any_refers-returns-then-refers
any_refers-returns-then-refers t c =
    tree-found c.args.label.now (trees c.args.list.now) c.loop-i.i c.loop-i.invariant (tree c.at.result.now) c.at.ensures
    (sym c.if-refers.true ∙ c.refers.ensures)

pub any_refers-loop-i-preserved : goal.any_refers-loop-i-preserved
any_refers-loop-i-preserved t c =
    tree-next c.args.label.now (trees c.args.list.now) c.loop-i.i c.loop-i.invariant (tree c.at.result.now) c.at.ensures
    (sym c.if-refers.false ∙ c.refers.ensures)
