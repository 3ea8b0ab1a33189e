use Rattle.std.proofs.Common.{refl, ap, ◌∙◌}
use Rattle.ad_builder.proofs.BuilderLemmas.{on_ok, leaf-carried}
use Rattle.ad_tree.proofs.TreeLemmas.{tree-Call}
use Rattle.ad_tree.specs.Tree.{call, node, pack}
use Rattle.ad_builder.proofs.builder.Builder.call.Goals as goal

pub returns-in-Ok : goal.returns-in-Ok
returns-in-Ok c = λ is_ad st h.
    on_ok c.put.result (λ put. leaf-carried is_ad st (call c.args.name)
    (tree-Call c.args.name c.in-Ok.arguments ∙ ap (λ ts. node (call c.args.name) (pack ts)) c.in-Ok.ensures)
    (c.leaf.ensures (call c.args.name) refl) put h) c.put.ensures
