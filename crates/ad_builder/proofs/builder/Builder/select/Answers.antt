use Rattle.std.proofs.Common.{refl}
use Rattle.ad_builder.proofs.BuilderLemmas.{on_ok, one-carried}
use Rattle.ad_tree.proofs.TreeLemmas.{tree-Select}
use Rattle.ad_tree.specs.Tree.{select}
use Rattle.ad_builder.proofs.builder.Builder.select.Goals as goal

pub returns : goal.returns
returns c = λ is_ad st h.
    on_ok c.put.result (λ put. one-carried is_ad st (select c.args.name) c.in_ok-measure.ensures (tree-Select c.in_ok-measure.base c.args.name)
    (λ x is. c.over_one.ensures (select c.args.name) x refl is) put h) c.put.ensures
