use Rattle.std.proofs.Common.{length, slice_get, sym, ◌∙◌, ap, subst, arith}
use Rattle.slot_order.specs.Cells.{AreLone, AreNoted, listed}
use Rattle.slot_order.proofs.CellLemmas.{listed-filter}
use Rattle.slot_order.proofs.KeptLemmas.{closed-found, closed-lone, noted-lone}
use Rattle.slot_order.proofs.order.SlotOrder.close.Goals as goal

pub note_places-requires-clause-lone : goal.note_places-requires-clause-lone
note_places-requires-clause-lone c =
    let o = c.self.inside in
    subst AreLone (sym (c.as_slice.ensures ∙ c.close.ensures))
    (closed-lone o.cells (noted-lone o.cells o.places.items c.self.invariant.noted))

pub note_places-requires-clause-found : goal.note_places-requires-clause-found
note_places-requires-clause-found c = λ cell slot at.
    let o = c.self.inside in
    omega (
      arith,
      o.places.ok.0,
      closed-found o.cells o.places.items c.self.invariant.noted cell slot (ap (λ l. slice_get l cell)
          (sym (c.as_slice.ensures ∙ c.close.ensures)) ∙ at),
    )

pub invariant_of-self : goal.invariant_of-self
invariant_of-self c =
    record {
      noted = subst (λ l. AreNoted l c.note_places.new.places.items) c.as_slice.ensures c.note_places.ensures;
      counted = c.self.invariant.counted ∙ ap length (sym (ap listed c.close.ensures ∙ listed-filter c.self.inside.cells));
    }

pub returns : goal.returns
returns c = ap listed c.close.ensures ∙ listed-filter c.self.inside.cells ∙ c.self.view_is
