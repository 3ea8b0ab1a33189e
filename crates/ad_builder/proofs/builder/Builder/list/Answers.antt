use Rattle.std.proofs.Common.{refl, ap, ◌∙◌}
use Rattle.ad_builder.proofs.BuilderLemmas.{on_ok, leaf-carried}
use Rattle.ad_tree.proofs.TreeLemmas.{tree-List}
use Rattle.ad_tree.specs.Tree.{list, node, pack}
use Rattle.ad_builder.proofs.builder.Builder.list.Goals as goal

pub returns : goal.returns
returns c = λ is_ad st h.
    on_ok c.put.result (λ put. leaf-carried is_ad st list (tree-List c.in_ok-elements.elements ∙ ap (λ ts. node list (pack ts)) c.in_ok-elements.ensures)
    (c.leaf.ensures list refl) put h) c.put.ensures
