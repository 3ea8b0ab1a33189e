use Rattle.std.proofs.Common.{refl, sym, subst, OnOk}
use Rattle.ad_builder.specs.Builds.{Holds}
use Rattle.ad_builder.specs.Machine.{step}
use Rattle.ad_builder.specs.declared.instruction.Instruction.TheVariants as instructions
use Rattle.ad_builder.proofs.BuilderLemmas.{on_ok, leaf-added}
use Rattle.ad_tree.proofs.TreeLemmas.{tree-Literal, tree-Name}
use Rattle.ad_tree.specs.Tree.{literal, name}
use Rattle.ad_builder.proofs.builder.Builder.carry_out_element.Goals as goal

pub returns-in-Literal : goal.returns-in-Literal
returns-in-Literal c = λ is_ad st h.
    subst (λ i. OnOk c.add.result (Holds is_ad c.add.new.self (step instructions.Element (step i st)))) (sym c.in-Literal.is)
    (on_ok c.add.result (λ taken. leaf-added is_ad st (literal c.in-Literal.literal) c.leaf.result _ (tree-Literal c.in-Literal.literal)
    (c.leaf.ensures (literal c.in-Literal.literal) refl) taken h) c.add.ensures)

pub returns-in-Name : goal.returns-in-Name
returns-in-Name c = λ is_ad st h.
    subst (λ i. OnOk c.add-in-Name.result (Holds is_ad c.add-in-Name.new.self (step instructions.Element (step i st)))) (sym c.in-Name.is)
    (on_ok c.add-in-Name.result (λ taken. leaf-added is_ad st (name c.in-Name.scope c.in-Name.name) c.leaf-in-Name.result
    _ (tree-Name c.in-Name.scope c.in-Name.name)
    (c.leaf-in-Name.ensures (name c.in-Name.scope c.in-Name.name) refl) taken h) c.add-in-Name.ensures)
