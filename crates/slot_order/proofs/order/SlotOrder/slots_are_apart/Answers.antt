use Rattle.std.proofs.Common.{◌∙◌, ap, sym}
use Rattle.slot_order.specs.Slots.{are_apart}
use Rattle.slot_order.proofs.KeptLemmas.{lone-apart, noted-lone}
use Rattle.slot_order.proofs.order.SlotOrder.slots_are_apart.Goals as goal

pub returns : goal.returns
returns c =
    let o = c.self.inside in
    ap are_apart (sym c.self.view_is) ∙ lone-apart o.cells (noted-lone o.cells o.places.items c.self.invariant.noted)
