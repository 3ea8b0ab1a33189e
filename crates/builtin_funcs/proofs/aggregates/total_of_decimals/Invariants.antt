use Rattle.std.proofs.Common.{◌≡◌, ◌*◌, ◌^◌, pos, ◌+ℤ◌, ◌*ℤ◌, neg_ℤ, ◌≤ℤ◌, true, fold}
use Rattle.ad_value.specs.Plain.{plains}
use Rattle.ad_value.specs.Numbers.{million}
use Rattle.builtin_funcs.proofs.Running.{amounts_from}
use Rattle.builtin_funcs.proofs.aggregates.total_of_decimals.Given as goal

-- whole numbers and millionths so far are what is added, and no more than 2^63 of each for each place
abbrev pub invariant-loop-i : goal.invariant-loop-i
invariant-loop-i l =
    (fold ◌+ℤ◌ (l.whole *ℤ million +ℤ l.millionths) (amounts_from true l.i (plains l.items)) ≡ fold ◌+ℤ◌ (pos 0) (amounts_from true 0 (plains l.items)))
    × (neg_ℤ (pos (2 ^ 63 * l.i)) ≤ℤ l.whole) × (l.whole ≤ℤ pos (2 ^ 63 * l.i))
    × (neg_ℤ (pos (2 ^ 63 * l.i)) ≤ℤ l.millionths) × (l.millionths ≤ℤ pos (2 ^ 63 * l.i))
