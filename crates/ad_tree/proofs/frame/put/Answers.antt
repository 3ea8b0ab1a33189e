use Rattle.std.proofs.Common.{◌∙◌, ap, sym, true≢false}
use Rattle.ad_tree.specs.Attributes.{attributes_of}
use Rattle.ad_tree.proofs.FrameLemmas.{attributes-replace, moves_none-found, moves_none-new}
use Rattle.ad_tree.proofs.frame.put.Goals as goal
use Rattle.ad_tree.proofs.frame.put.Goals.{then-was_leaf, else-was_leaf}

pub returns-after-was_leaf-clause-ok : goal.returns-after-was_leaf-clause-ok
returns-after-was_leaf-clause-ok c = ap attributes_of c.in_ok-replaced.ensures.keys ∙ attributes-replace c.args.attribute c.args.set.now.keys

pub returns-after-was_leaf-clause-steady : goal.returns-after-was_leaf-clause-steady
returns-after-was_leaf-clause-steady c = λ are_leaves.
    moves_none-found c.args.attribute c.args.set.now.keys c.in-Some.replaced (sym c.in_ok-replaced.ensures.old ∙ c.in-Some.is) (elim c.if-was_leaf.branch [
      | then-was_leaf w ↦ (w.is_leaf-are_leaves.ensures (sym w.are_leaves-is ∙ are_leaves), c.is_leaf-was_leaf.ensures w.if-was_leaf.true)
      | else-was_leaf w ↦ absurd (true≢false (sym are_leaves ∙ w.are_leaves-is ∙ w.if-was_leaf.false))
    ])

pub returns-in-None-clause-ok : goal.returns-in-None-clause-ok
returns-in-None-clause-ok c = ap attributes_of c.in_ok-replaced.ensures.keys ∙ attributes-replace c.args.attribute c.args.set.now.keys

pub returns-in-None-clause-steady : goal.returns-in-None-clause-steady
returns-in-None-clause-steady c = λ steady. moves_none-new c.args.attribute c.args.set.now.keys (sym c.in_ok-replaced.ensures.old ∙ c.in-None.is)
