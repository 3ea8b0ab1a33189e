use Rattle.std.proofs.Common.{refl}
use Rattle.ad_builder.proofs.BuilderLemmas.{on_ok, one-carried}
use Rattle.ad_tree.proofs.TreeLemmas.{tree-Unary}
use Rattle.ad_tree.specs.Tree.{unary}
use Rattle.ad_builder.proofs.builder.Builder.unary.Goals as goal

pub returns : goal.returns
returns c = λ is_ad st h.
    on_ok c.put.result (λ put. one-carried is_ad st (unary c.args.operator) c.in_ok-measure.ensures (tree-Unary c.args.operator c.in_ok-measure.operand)
    (λ x is. c.over_one.ensures (unary c.args.operator) x refl is) put h) c.put.ensures
