use Rattle.std.proofs.Common.{◌≡◌, ◌<◌, ◌-◌, ◌*◌, ℕ, Some, min, slice_get}
use Rattle.slot_order.proofs.cells.count_full.Given as goal

abbrev pub invariant-loop-block : goal.invariant-loop-block
invariant-loop-block l =
    (l.left ≡ l.len - 64 * l.block)
    × ((block count : ℕ) → block < l.block → slice_get l.counts block ≡ Some count → count ≡ min (l.len - 64 * block) 64)
