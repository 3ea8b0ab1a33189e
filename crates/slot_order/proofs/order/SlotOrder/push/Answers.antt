use Rattle.std.proofs.Common.{◌++◌, ◌∷◌, [], slice_set, ◌+◌, Some, cond, length, length-append, sym, ◌∙◌, ap, subst, arith}
use Rattle.slot_order.specs.Cells.{IsKept, listed}
use Rattle.std.specs.List.{list_any}
use Rattle.std.specs.Bool.{◌==◌}
use Rattle.slot_order.proofs.CellLemmas.{listed-push, listed-short}
use Rattle.slot_order.proofs.KeptLemmas.{last-kept}
use Rattle.slot_order.proofs.order.SlotOrder.push.Goals as goal

pub invariant_of-self : goal.invariant_of-self
invariant_of-self c =
    record { noted = λ cell slot at. c.reach.ensures.kept slot cell (c.self.invariant.noted cell slot at); counted = c.self.invariant.counted }

pub invariant_of-self-in_err-push : goal.invariant_of-self-in_err-push
invariant_of-self-in_err-push c =
    subst (λ l. IsKept l c.reach.new.numbers.items c.self.inside.len) (sym c.in_err-push.ensures.err)
    (record { noted = λ cell slot at. c.reach.ensures.kept slot cell (c.self.invariant.noted cell slot at); counted = c.self.invariant.counted })

pub overflow_add-self : goal.overflow_add-self
overflow_add-self c =
    let o = c.self.inside in
    let slot = c.args.slot in
    let last = length-append o.cells (Some slot ∷ []) in
    omega (arith, c.self.invariant.counted, listed-short o.cells, c.in_ok-push.ensures.fits, ap length c.in_ok-push.ensures.ok, last)

pub invariant_of-self-2 : goal.invariant_of-self-2
invariant_of-self-2 c =
    let o = c.self.inside in
    let absent = ap (list_any (λ s. s == c.args.slot)) c.self.view_is ∙ sym c.contains.ensures ∙ c.if-contains.false in
    subst (λ l. IsKept l (slice_set c.reach.new.numbers.items c.args.slot c.len-cell.result) (o.len + 1)) (sym c.in_ok-push.ensures.ok)
    (last-kept o.cells o.places.items c.reach.new.numbers.items o.len c.args.slot c.len-cell.result absent c.self.invariant c.reach.ensures.kept
    (omega (arith, c.in_ok-reach.ensures.reached, c.reach.new.numbers.ok.0)) c.len-cell.ensures)

pub returns-clause-ok : goal.returns-clause-ok
returns-clause-ok c =
    let o = c.self.inside in
    let slot = c.args.slot in
    let now = c.args.self.now in
    ap listed c.in_ok-push.ensures.ok
    ∙ listed-push o.cells slot
    ∙ ap (λ l. l ++ slot ∷ []) c.self.view_is
    ∙ sym (ap (λ b. cond b now (now ++ slot ∷ [])) (sym c.contains.ensures ∙ c.if-contains.false))
