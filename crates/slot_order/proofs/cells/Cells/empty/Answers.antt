use Rattle.std.proofs.Common.{◌≡◌, ◌/◌, length, slice_get, Some, refl, ◌∙◌, ap, arith}
use Rattle.std.proofs.lemmas.Option.{slice_get_read, slice_get_within}
use Rattle.slot_order.proofs.BlockLemmas.{gone-counted, gone-some}
use Rattle.slot_order.proofs.cells.Cells.empty.Goals as goal

pub overflow_sub-index_mut : goal.overflow_sub-index_mut
overflow_sub-index_mut c =
    let o = c.self.inside in
    let block = c.args.cell / 64 in
    let at : slice_get o.cells.items c.args.cell ≡ Some (Some c.requires.0) = ap (λ l. slice_get l c.args.cell) c.self.view_is ∙ c.requires.1 in
    let within = slice_get_within o.cells.items c.args.cell (Some c.requires.0) at in
    gone-some o.cells.items o.counts.items c.args.cell c.requires.0 block c.index_mut-2.result.now c.self.invariant at (omega arith) (omega arith)
    (slice_get_read o.counts.items (length o.counts.items) block c.index_mut-2.result.now refl
    (omega (arith, within, c.self.invariant.reached)) c.index_mut-2.ensures.value)

pub invariant_of-self : goal.invariant_of-self
invariant_of-self c =
    let o = c.self.inside in
    let block = c.args.cell / 64 in
    let at : slice_get o.cells.items c.args.cell ≡ Some (Some c.requires.0) = ap (λ l. slice_get l c.args.cell) c.self.view_is ∙ c.requires.1 in
    let within = slice_get_within o.cells.items c.args.cell (Some c.requires.0) at in
    gone-counted o.cells.items o.counts.items c.args.cell c.requires.0 block c.index_mut-2.result.now c.self.invariant at (omega arith) (omega arith)
    (slice_get_read o.counts.items (length o.counts.items) block c.index_mut-2.result.now refl
    (omega (arith, within, c.self.invariant.reached)) c.index_mut-2.ensures.value)
