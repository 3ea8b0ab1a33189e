use Rattle.std.proofs.Common.{◌∙◌}
use Rattle.slot_order.proofs.KeptLemmas.{tells}
use Rattle.slot_order.proofs.order.SlotOrder.contains.Goals as goal

pub returns : goal.returns
returns c =
    let o = c.self.inside in
    c.is_some.ensures
    ∙ tells o.cells c.as_slice.result.now o.places.items c.as_slice-2.result.now o.len c.args.self.now c.args.slot c.self.invariant c.self.view_is
    c.as_slice.ensures c.as_slice-2.ensures.value
    c.cell_of.result c.cell_of.ensures.found c.cell_of.ensures.none
