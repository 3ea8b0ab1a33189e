use Rattle.std.proofs.Common.{refl}
use Rattle.ad_builder.proofs.BuilderLemmas.{on_ok, two-carried}
use Rattle.ad_tree.proofs.TreeLemmas.{tree-Subscript}
use Rattle.ad_tree.specs.Tree.{subscript}
use Rattle.ad_builder.proofs.builder.Builder.subscript.Goals as goal

pub returns : goal.returns
returns c = λ is_ad st h.
    on_ok c.put.result (λ put. two-carried is_ad st subscript c.in_ok-right.ensures c.in_ok-left.ensures (tree-Subscript c.in_ok-left.base c.in_ok-right.place)
    (λ x y is too. c.over_two.ensures subscript x y refl is too) put h) c.put.ensures
