use Rattle.std.proofs.Common.{◌≡◌, ◌*◌, ◌+◌, length, slice_get, Some, drop, refl, sym, ◌∙◌, ap, arith}
use Rattle.std.proofs.lemmas.List.{take_rest}
use Rattle.std.proofs.lemmas.Option.{slice_get_past, slice_get_read}
use Rattle.slot_order.specs.Cells.{before, listed}
use Rattle.slot_order.proofs.BlockLemmas.{before-all, drop-listed}
use Rattle.slot_order.proofs.cells.Cells.nth.Goals as goal

pub returns-then-left-count : goal.returns-then-left-count
returns-then-left-count c =
    let o = c.self.inside in
    c.nth_of.ensures
    ∙ ap (λ cells. slice_get (listed cells) c.loop-block.left) (take_rest c.deref.result.now (64 * c.loop-block.block))
    ∙ ap (λ cells. slice_get (listed (drop (64 * c.loop-block.block) cells)) c.loop-block.left) c.deref.ensures.value
    ∙ drop-listed o.cells.items (64 * c.loop-block.block) c.loop-block.left
    ∙ ap (slice_get (listed o.cells.items)) c.loop-block.invariant
    ∙ ap (λ cells. slice_get (listed cells) c.args.i) c.self.view_is

pub loop-block-preserved : goal.loop-block-preserved
loop-block-preserved c =
    let o = c.self.inside in
    let block = c.loop-block.block in
    let at : slice_get o.counts.items block ≡ Some c.index-count.result.now =
    slice_get_read o.counts.items (length o.counts.items) block c.index-count.result.now refl
    (omega (arith, c.loop-block-test.true, c.len-block-end.ensures, o.counts.ok.0))
    c.index-count.ensures
    in
    let next : 64 * (block + 1) ≡ 64 * block + 64 = omega arith in
    omega (arith, c.loop-block.invariant, c.if-left-count.false, c.self.invariant.counted block c.index-count.result.now at, ap (before o.cells.items) next)

pub returns : goal.returns
returns c =
    let o = c.self.inside in
    let block = c.loop-block.block in
    let all = before-all o.cells.items (64 * block)
    (omega (arith, c.self.invariant.reached, c.loop-block-test.false, c.len-block-end.ensures, o.counts.ok.0)) in
    sym (ap (λ cells. slice_get (listed cells) c.args.i) (sym c.self.view_is)
    ∙ slice_get_past (listed o.cells.items) c.args.i (omega (arith, all, c.loop-block.invariant)))
