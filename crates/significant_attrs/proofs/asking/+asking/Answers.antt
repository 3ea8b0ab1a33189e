use Rattle.std.proofs.Common.{arith, refl}
use Rattle.ad_tree.specs.Tree.{pack, tree, trees}
use Rattle.ad_tree.proofs.TreeLemmas.{size-at}
use Rattle.significant_attrs.specs.Names.{asked_in, asked_in_all}
use Rattle.significant_attrs.proofs.AddLemmas.{added}
use Rattle.significant_attrs.proofs.asking.+asking.Goals as goal

pub add_of_all-add_of-requires : goal.add_of_all-add_of-requires
add_of_all-add_of-requires t c = (omega (arith, c.decreases, size-at (trees c.args.list.now) c.loop-i.i (tree c.at.result.now) c.at.ensures), tt)

pub add_of_all-loop-i-preserved : goal.add_of_all-loop-i-preserved
add_of_all-loop-i-preserved t c =
    added (λ ts. asked_in_all (pack ts)) asked_in (λ x xs. refl) (trees c.args.list.now) c.loop-i.i (tree c.at.result.now) c.loop-i.names c.add_of.new.names
    _ c.at.ensures c.in_ok-add_of.ensures c.loop-i.invariant
