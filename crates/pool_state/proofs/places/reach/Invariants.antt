use Rattle.std.proofs.Common.{◌≡◌, ℕ, ◌-◌, ◌+◌, false, slice_index_or, vec_len}
use Rattle.pool_state.proofs.places.reach.Given as goal

abbrev pub invariant-loop-marks : goal.invariant-loop-marks
invariant-loop-marks l = (other : ℕ) → slice_index_or l.marks.items other false ≡ slice_index_or l.initial.marks.items other false

abbrev pub decreases-loop-marks : goal.decreases-loop-marks
decreases-loop-marks l = (l.place + 1) - vec_len l.marks
