use Rattle.std.proofs.Common.{◌<◌, length, set, ap, sym, ◌∙◌, arith}
use Rattle.std.proofs.lemmas.List.Edits.{map_over_more}
use Rattle.gang_ports.specs.declared.weighing.Resource.{Resource}
use Rattle.gang_ports.specs.Search.{forgotten}
use Rattle.gang_ports.proofs.weighing.forget.Goals as goal

pub loop-resource-preserved : goal.loop-resource-preserved
loop-resource-preserved c =
    let now = c.loop-resource.resources in
    let i = c.loop-resource.resource-index in
    let item = c.resource-item.result in
    let within : i < length c.args.resources.now =
    omega (arith, c.loop-resource-test.true, c.loop-resource.auto.resource-index-end, c.loop-resource.auto.resources) in
    ap (λ (r : Resource). set now i (forgotten r)) (sym c.resource-item.is)
    ∙ map_over_more forgotten c.args.resources.now now i item within c.loop-resource.invariant c.resource-item.is
