use Rattle.std.proofs.Common.{◌≡◌, ◌*◌, ◌^◌, pos, ◌+ℤ◌, neg_ℤ, ◌≤ℤ◌, false, fold}
use Rattle.ad_value.specs.Plain.{plains}
use Rattle.builtin_funcs.proofs.Running.{amounts_from}
use Rattle.builtin_funcs.proofs.aggregates.total.Given as goal

abbrev pub invariant-loop-i : goal.invariant-loop-i
invariant-loop-i l =
    (fold ◌+ℤ◌ l.sum (amounts_from false l.i (plains l.items)) ≡ fold ◌+ℤ◌ (pos 0) (amounts_from false 0 (plains l.items)))
    × (neg_ℤ (pos (2 ^ 63 * l.i)) ≤ℤ l.sum) × (l.sum ≤ℤ pos (2 ^ 63 * l.i))
