use borrow.Enum.Total.{values_o_at}
use Rattle.ad_builder.proofs.BuilderLemmas.{element-taken}
use Rattle.ad_tree.proofs.TreeLemmas.{tree-List, tree-Call}
use Rattle.std.proofs.Common.{ap, [], ◌∷◌, ◌++◌, ◌∙◌}
use Rattle.ad_tree.specs.Tree.{tree, trees, list, call}
use Rattle.ad_tree.specs.contracts.tree.Expr.{enum}
use Rattle.ad_builder.proofs.operand.lengthen.Goals as goal

pub returns-in_ok-push-in-List : goal.returns-in_ok-push-in-List
returns-in_ok-push-in-List c =
    let element = tree c.args.element in
    rw (c.in-List.is, values_o_at enum 10 (c.in-List.list, tt))
    (λ yes. element-taken list (trees c.in-List.list) (trees c.push.new.self) element
    (c.in_ok-push-in-List.ensures.ok ∙ ap (λ l. trees l ++ element ∷ []) c.in-List.list-is) (tree-List c.in-List.list) (tree-List c.push.new.self))

pub returns-in_ok-push-in-Call : goal.returns-in_ok-push-in-Call
returns-in_ok-push-in-Call c =
    let element = tree c.args.element in
    rw (c.in-Call.is, values_o_at enum 9 (c.in-Call.field-0, (c.in-Call.list, tt)))
    (λ yes. element-taken (call c.in-Call.field-0) (trees c.in-Call.list.value) (trees c.push-in-Call.new.self) element
    (c.in_ok-push-in-Call.ensures.ok ∙ ap (λ l. trees l ++ element ∷ []) (c.deref_mut.ensures.value ∙ ap (λ l. l.value) c.in-Call.list-is))
    (tree-Call c.in-Call.field-0 c.in-Call.list)
    (tree-Call c.in-Call.field-0 _))
