use Rattle.std.proofs.Common.{◌∙◌, ◌++◌, ◌∷◌, [], ap, map, sym}
use Rattle.std.proofs.lemmas.List.{map-append}
use Rattle.ad_tree.specs.Tree.{tree}
use Rattle.ad_tree.proofs.DraftLemmas.{told_on_err}
use Rattle.ad_tree.proofs.TreeLemmas.{trees-items}
use Rattle.ad_tree.proofs.tree.Exprs.push_growing.Goals as goal

pub returns-clause-ok : goal.returns-clause-ok
returns-clause-ok c =
    trees-items _
    ∙ ap (map tree) c.in_ok-push.ensures.items
    ∙ map-append tree c.args.self.now.items.items (c.args.item ∷ [])
    ∙ ap (λ ts. ts ++ tree c.args.item ∷ []) (sym (trees-items c.args.self.now))

pub returns-in_err-push-clause-err : goal.returns-in_err-push-clause-err
returns-in_err-push-clause-err c =
    told_on_err c.from_residual.result (trees-items _ ∙ ap (map tree) c.in_err-push.ensures.items ∙ sym (trees-items c.args.self.now))
