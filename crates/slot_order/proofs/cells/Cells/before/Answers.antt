use Rattle.std.proofs.Common.{◌-◌, ◌*◌, ◌/◌, count_by, drop, is_some, length, sum, take, ap, arith}
use Rattle.slot_order.specs.Cells.{before}
use Rattle.slot_order.proofs.BlockLemmas.{before-range, before-short, sum-counts}
use Rattle.slot_order.proofs.cells.Cells.before.Goals as goal

pub total-requires : goal.total-requires
total-requires c =
    let o = c.self.inside in
    let block = c.args.cell / 64 in
    let cells = ap length c.self.view_is in
    let whole = sum-counts o.cells.items o.counts.items c.self.invariant block (omega (arith, c.requires, cells, c.self.invariant.reached)) in
    let same = ap (λ counts. sum (take block counts)) c.deref.ensures.value in
    omega (arith, whole, same, before-short o.cells.items (64 * block), o.cells.ok.0, o.cells.ok.1, o.cells.small)

pub returns : goal.returns
returns c =
    let o = c.self.inside in
    let block = c.args.cell / 64 in
    let cells = ap length c.self.view_is in
    let whole = sum-counts o.cells.items o.counts.items c.self.invariant block (omega (arith, c.requires, cells, c.self.invariant.reached)) in
    let same = ap (λ counts. sum (take block counts)) c.deref.ensures.value in
    let between = ap (λ cells. count_by is_some (take (c.args.cell - 64 * block) (drop (64 * block) cells))) c.deref-2.ensures.value in
    omega (
      arith,
      whole,
      same,
      between,
      c.total.ensures,
      c.slots_in.ensures,
      before-range o.cells.items (64 * block) c.args.cell (omega arith),
      ap (λ cells. before cells c.args.cell) c.self.view_is,
    )

pub overflow_add-result : goal.overflow_add-result
overflow_add-result c =
    let o = c.self.inside in
    omega (
      arith,
      returns c,
      before-short c.args.self.now c.args.cell,
      ap length c.self.view_is,
      o.cells.ok.0,
      o.cells.ok.1,
      o.cells.small,
    )
