use Rattle.std.proofs.Common.{refl}
use Rattle.ad_builder.proofs.BuilderLemmas.{on_ok, three-carried}
use Rattle.ad_tree.proofs.TreeLemmas.{tree-Cond}
use Rattle.ad_tree.specs.Tree.{choice}
use Rattle.ad_builder.proofs.builder.Builder.choice.Goals as goal

pub returns : goal.returns
returns c = λ is_ad st h.
    on_ok c.put.result (λ put. three-carried is_ad st c.in_ok-right.ensures c.in_ok-middle.ensures c.in_ok-left.ensures
    (tree-Cond c.in_ok-left.first c.in_ok-middle.second c.in_ok-right.third)
    (λ x y z is too also. c.over_three.ensures choice x y z refl is too also) put h) c.put.ensures
