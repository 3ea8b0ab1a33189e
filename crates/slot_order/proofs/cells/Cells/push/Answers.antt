use Rattle.std.proofs.Common.{◌≡◌, ◌++◌, ◌∷◌, [], ◌*◌, ◌+◌, ◌/◌, length, slice_get, slice_set, Some, refl, sym, ◌∙◌, ap, subst, arith}
use Rattle.std.proofs.lemmas.Option.{slice_get_read}
use Rattle.slot_order.specs.Cells.{AreCounted}
use Rattle.slot_order.proofs.BlockLemmas.{before-short, longer-counted, push-counted}
use Rattle.slot_order.proofs.cells.Cells.push.Goals as goal

pub overflow_add-index_mut : goal.overflow_add-index_mut
overflow_add-index_mut c =
    let o = c.self.inside in
    let later = c.reach.new.numbers in
    let block = c.len-block.result / 64 in
    let kept = longer-counted o.cells.items o.counts.items later.items c.self.invariant c.reach.ensures.zeros c.reach.ensures.longer in
    let at : slice_get later.items block ≡ Some c.index_mut.result.now =
    slice_get_read later.items (length later.items) block c.index_mut.result.now refl
    (omega (arith, c.in_ok-reach.ensures.reached, later.ok.0)) c.index_mut.ensures.value
    in
    omega (arith, kept.counted block c.index_mut.result.now at, before-short o.cells.items (64 * block + 64), o.cells.ok.0, o.cells.ok.1, o.cells.small)

pub invariant_of-self-2 : goal.invariant_of-self-2
invariant_of-self-2 c =
    let o = c.self.inside in
    let later = c.reach.new.numbers in
    let block = c.len-block.result / 64 in
    let kept = longer-counted o.cells.items o.counts.items later.items c.self.invariant c.reach.ensures.zeros c.reach.ensures.longer in
    let at : slice_get later.items block ≡ Some c.index_mut.result.now =
    slice_get_read later.items (length later.items) block c.index_mut.result.now refl
    (omega (arith, c.in_ok-reach.ensures.reached, later.ok.0)) c.index_mut.ensures.value
    in
    let len : c.len-block.result ≡ length o.cells.items = omega (arith, c.len-block.ensures, o.cells.ok.0) in
    subst (λ l. AreCounted l (slice_set later.items block (c.index_mut.result.now + 1)))
    (sym (c.push_reserved.ensures.items ∙ ap (λ l. l ++ Some c.args.slot ∷ []) c.reserve.ensures.items))
    (push-counted o.cells.items later.items c.args.slot block c.index_mut.result.now kept (omega (arith, len)) (omega (arith, len)) at)
