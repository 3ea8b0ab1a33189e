use Rattle.std.proofs.Common.{◌≡◌, ◌++◌, ◌-◌, ◌*◌, ℕ, Some, drop, filter, is_some, length, min, slice_get, take, sym, ◌∙◌, ap, subst, arith}
use Rattle.std.proofs.Math.Seq.{take-append_seam}
use Rattle.slot_order.specs.Cells.{AreCounted}
use Rattle.slot_order.proofs.BlockLemmas.{closed-counted}
use Rattle.slot_order.proofs.cells.Cells.close.Goals as goal

pub invariant_of-self : goal.invariant_of-self
invariant_of-self c =
    let o = c.self.inside in
    let later = c.count_full.new.counts in
    let same : length later ≡ length o.counts.items = omega (arith, c.deref_mut.ensures.len, c.deref_mut.ensures.value, o.counts.ok.0) in
    let written : take o.counts.len (later ++ drop (length later) o.counts.items) ≡ later =
    ap (λ n. take n (later ++ drop (length later) o.counts.items)) (omega (arith, same, o.counts.ok.0))
    ∙ take-append_seam later (drop (length later) o.counts.items)
    in
    let len : c.len.result ≡ length (filter is_some o.cells.items) =
    omega (arith, c.len.ensures, c.close_gaps.new.cells.ok.0, ap length c.close_gaps.ensures)
    in
    let full : (block count : ℕ) → slice_get later block ≡ Some count → count ≡ min (length (filter is_some o.cells.items) - 64 * block) 64 =
    λ block count at. c.count_full.ensures block count at ∙ ap (λ n. min (n - 64 * block) 64) len
    in
    subst (AreCounted c.close_gaps.new.cells.items) (sym written)
    (subst (λ l. AreCounted l later) (sym c.close_gaps.ensures) (closed-counted o.cells.items o.counts.items later c.self.invariant same full))
