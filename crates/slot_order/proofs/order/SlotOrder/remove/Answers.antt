use Rattle.std.proofs.Common.{◌-◌, slice_get, sym, ◌∙◌, ap, subst, arith}
use Rattle.slot_order.specs.Cells.{IsKept, listed}
use Rattle.slot_order.specs.Slots.{without}
use Rattle.slot_order.proofs.CellLemmas.{length-gone, without-absent}
use Rattle.slot_order.proofs.KeptLemmas.{gone-kept, gone-left, tells-none, tells-some}
use Rattle.slot_order.proofs.order.SlotOrder.remove.Goals as goal

pub returns-in_default-clause-there : goal.returns-in_default-clause-there
returns-in_default-clause-there c =
    let o = c.self.inside in
    sym (tells-none o.cells c.as_slice.result.now o.places.items c.as_slice-2.result.now o.len c.args.self.now c.args.slot c.self.invariant c.self.view_is
    c.as_slice.ensures c.as_slice-2.ensures.value
    c.in_default.ensures.none)

pub returns-in_default-clause-left : goal.returns-in_default-clause-left
returns-in_default-clause-left c = sym (without-absent c.args.slot c.args.self.now (sym (returns-in_default-clause-there c)))

pub empty-requires : goal.empty-requires
empty-requires c = (c.args.slot, ap (λ l. slice_get l c.in-Some.cell) (sym c.as_slice.ensures) ∙ c.in-Some.ensures.found)

pub overflow_sub-self : goal.overflow_sub-self
overflow_sub-self c =
    let o = c.self.inside in
    omega (
      arith,
      c.self.invariant.counted,
      length-gone o.cells c.in-Some.cell c.args.slot (ap (λ l. slice_get l c.in-Some.cell)
          (sym c.as_slice.ensures) ∙ c.in-Some.ensures.found),
    )

pub invariant_of-self : goal.invariant_of-self
invariant_of-self c =
    let o = c.self.inside in
    subst (λ l. IsKept l o.places.items (o.len - 1)) (sym c.empty.ensures)
    (gone-kept o.cells o.places.items o.len c.in-Some.cell c.args.slot c.self.invariant
    (ap (λ l. slice_get l c.in-Some.cell) (sym c.as_slice.ensures) ∙ c.in-Some.ensures.found))

pub invariant_of-self-else-self-len : goal.invariant_of-self-else-self-len
invariant_of-self-else-self-len c =
    let o = c.self.inside in
    subst (λ l. IsKept l o.places.items (o.len - 1)) (sym c.empty.ensures)
    (gone-kept o.cells o.places.items o.len c.in-Some.cell c.args.slot c.self.invariant
    (ap (λ l. slice_get l c.in-Some.cell) (sym c.as_slice.ensures) ∙ c.in-Some.ensures.found))

pub returns-then-self-len-clause-there : goal.returns-then-self-len-clause-there
returns-then-self-len-clause-there c =
    let o = c.self.inside in
    sym (tells-some o.cells c.as_slice.result.now o.places.items c.as_slice-2.result.now o.len c.args.self.now c.args.slot c.self.invariant c.self.view_is
    c.as_slice.ensures c.as_slice-2.ensures.value
    c.in-Some.cell c.in-Some.ensures.found)

pub returns-then-self-len-clause-left : goal.returns-then-self-len-clause-left
returns-then-self-len-clause-left c =
    let o = c.self.inside in
    c.close.ensures
    ∙ ap listed c.empty.ensures
    ∙ gone-left o.cells o.places.items o.len c.in-Some.cell c.args.slot c.self.invariant
    (ap (λ l. slice_get l c.in-Some.cell) (sym c.as_slice.ensures) ∙ c.in-Some.ensures.found)
    ∙ ap (without c.args.slot) c.self.view_is

pub returns-else-self-len-clause-there : goal.returns-else-self-len-clause-there
returns-else-self-len-clause-there c =
    let o = c.self.inside in
    sym (tells-some o.cells c.as_slice.result.now o.places.items c.as_slice-2.result.now o.len c.args.self.now c.args.slot c.self.invariant c.self.view_is
    c.as_slice.ensures c.as_slice-2.ensures.value
    c.in-Some.cell c.in-Some.ensures.found)

pub returns-else-self-len-clause-left : goal.returns-else-self-len-clause-left
returns-else-self-len-clause-left c =
    let o = c.self.inside in
    ap listed c.empty.ensures
    ∙ gone-left o.cells o.places.items o.len c.in-Some.cell c.args.slot c.self.invariant
    (ap (λ l. slice_get l c.in-Some.cell) (sym c.as_slice.ensures) ∙ c.in-Some.ensures.found)
    ∙ ap (without c.args.slot) c.self.view_is
