use Rattle.std.proofs.Common.{◌≡◌, ◌+◌, ◌-◌, ◌≤◌, ◌⊎◌, ℕ, Some, length, slice_get, vec_len}
use Rattle.slot_order.proofs.cells.reach.Given as goal

abbrev pub invariant-loop-numbers : goal.invariant-loop-numbers
invariant-loop-numbers l =
    ((k n : ℕ) → slice_get l.initial.numbers.items k ≡ Some n → slice_get l.numbers.items k ≡ Some n)
    × ((k n : ℕ) → slice_get l.numbers.items k ≡ Some n
    → (slice_get l.initial.numbers.items k ≡ Some n) ⊎ ((n ≡ 0) × (length l.initial.numbers.items ≤ k)))
    × (length l.initial.numbers.items ≤ length l.numbers.items)

abbrev pub decreases-loop-numbers : goal.decreases-loop-numbers
decreases-loop-numbers l = (l.place + 1) - vec_len l.numbers
