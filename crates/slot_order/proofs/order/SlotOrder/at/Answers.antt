use Rattle.std.proofs.Common.{◌≡◌, ◌<◌, length, slice_get, Some, refl, ◌∙◌, ap, arith}
use Rattle.std.proofs.lemmas.Bool.Decides.{nat_tests}
use Rattle.std.proofs.lemmas.Option.{slice_get_read}
use Rattle.slot_order.specs.Cells.{listed}
use Rattle.slot_order.proofs.CellLemmas.{full-at}
use Rattle.slot_order.proofs.order.SlotOrder.at.Goals as goal

pub returns-then-self-len : goal.returns-then-self-len
returns-then-self-len c =
    let o = c.self.inside in
    let cells = c.as_slice.result.now in
    let found = c.in_ok-get.ensures.lookup in
    let within : c.args.i < length cells = grind (arith, nat_tests, found.0) in
    let at : slice_get cells c.args.i ≡ Some c.in_ok-get.field-0.now =
    slice_get_read cells (length cells) c.args.i c.in_ok-get.field-0.now refl within found.1 in
    let full : length (listed cells) ≡ length cells =
    ap (λ l. length (listed l)) c.as_slice.ensures ∙ omega (arith, c.self.invariant.counted, c.if-self-len.true, c.len.ensures, ap length c.as_slice.ensures) in
    full-at cells c.args.i c.in_ok-get.field-0.now full at
    ∙ ap (λ l. slice_get l c.args.i) (ap listed c.as_slice.ensures ∙ c.self.view_is)
