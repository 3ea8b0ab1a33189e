use Rattle.std.proofs.Common.{◌≡◌, length, slice_get, Some, IfNone, false, sym, ◌∙◌, ap, subst, arith}
use Rattle.std.specs.List.{list_any}
use Rattle.std.proofs.lemmas.Option.{slice_get_within}
use Rattle.std.specs.Bool.{◌==◌}
use Rattle.slot_order.specs.Cells.{listed}
use Rattle.slot_order.proofs.CellLemmas.{full-at, place-cell}
use Rattle.slot_order.proofs.KeptLemmas.{tells-none}
use Rattle.slot_order.proofs.order.SlotOrder.place.Goals as goal

pub returns-in_err-cell-clause-none : goal.returns-in_err-cell-clause-none
returns-in_err-cell-clause-none c =
    let o = c.self.inside in
    subst (λ r. IfNone r (list_any (λ s. s == c.args.slot) c.args.self.now ≡ false)) (sym c.from_residual.ensures)
    (tells-none o.cells c.as_slice.result.now o.places.items c.as_slice-2.result.now o.len c.args.self.now c.args.slot c.self.invariant c.self.view_is
    c.as_slice.ensures c.as_slice-2.ensures.value
    c.in_err-cell.ensures.none)

pub returns-then-self-len-clause-place : goal.returns-then-self-len-clause-place
returns-then-self-len-clause-place c =
    let cells = c.as_slice.result.now in
    let full : length (listed cells) ≡ length cells =
    ap (λ l. length (listed l)) c.as_slice.ensures
    ∙ omega (arith, c.self.invariant.counted, c.if-self-len.true, c.len.ensures, ap length c.as_slice.ensures) in
    ap (λ l. slice_get l c.in_ok-cell.cell) (sym c.self.view_is ∙ ap listed (sym c.as_slice.ensures))
    ∙ sym (full-at cells c.in_ok-cell.cell (Some c.args.slot) full c.in_ok-cell.ensures.found)

pub before-requires : goal.before-requires
before-requires c =
    omega (arith, slice_get_within c.as_slice.result.now c.in_ok-cell.cell (Some c.args.slot) c.in_ok-cell.ensures.found, ap length c.as_slice.ensures)

pub returns-clause-place : goal.returns-clause-place
returns-clause-place c =
    let cells = c.self.inside.cells in
    let cell = c.in_ok-cell.cell in
    let at : slice_get cells cell ≡ Some (Some c.args.slot) = ap (λ l. slice_get l cell) (sym c.as_slice.ensures) ∙ c.in_ok-cell.ensures.found in
    ap (λ l. slice_get l c.before-2.result) (sym c.self.view_is) ∙ ap (slice_get (listed cells)) c.before-2.ensures ∙ place-cell cells cell c.args.slot at
