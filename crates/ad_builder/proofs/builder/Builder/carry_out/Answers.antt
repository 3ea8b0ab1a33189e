use Rattle.std.proofs.Common.{refl, sym, subst, OnOk}
use Rattle.ad_builder.specs.Builds.{Holds}
use Rattle.ad_builder.specs.Machine.{step}
use Rattle.ad_builder.proofs.BuilderLemmas.{on_ok, leaf-carried}
use Rattle.ad_tree.proofs.TreeLemmas.{tree-Literal, tree-Name}
use Rattle.ad_tree.specs.Tree.{literal, name}
use Rattle.ad_builder.proofs.builder.Builder.carry_out.Goals as goal

pub returns-in-Literal : goal.returns-in-Literal
returns-in-Literal c = λ is_ad st h.
    subst (λ i. OnOk c.put.result (Holds is_ad c.put.new.self (step i st))) (sym c.in-Literal.is)
    (on_ok c.put.result (λ put. leaf-carried is_ad st (literal c.in-Literal.literal) (tree-Literal c.in-Literal.literal)
    (c.leaf.ensures (literal c.in-Literal.literal) refl) put h) c.put.ensures)

pub returns-in-Name : goal.returns-in-Name
returns-in-Name c = λ is_ad st h.
    subst (λ i. OnOk c.put-in-Name.result (Holds is_ad c.put-in-Name.new.self (step i st))) (sym c.in-Name.is)
    (on_ok c.put-in-Name.result (λ put. leaf-carried is_ad st (name c.in-Name.scope c.in-Name.name) (tree-Name c.in-Name.scope c.in-Name.name)
    (c.leaf-in-Name.ensures (name c.in-Name.scope c.in-Name.name) refl) put h) c.put-in-Name.ensures)
