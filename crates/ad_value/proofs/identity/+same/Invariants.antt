use Rattle.std.proofs.Common.{◌≡◌, ◌+◌, ◌*◌, drop}
use Rattle.ad_value.specs.Plain.{plain, plains, plains_of}
use Rattle.ad_value.specs.Operators.{are_same, weight_of, weights_of}
use Rattle.ad_value.proofs.identity.+same.Given as goal

abbrev pub decreases-same : goal.decreases-same
decreases-same l = 2 * weight_of (plain l.a.now)

abbrev pub decreases-same_items : goal.decreases-same_items
decreases-same_items l = 2 * weights_of (plains_of (plains l.a.now)) + 1

-- the lists are the same exactly where what is left of them is
abbrev pub invariant-same_items-loop-i : goal.invariant-same_items-loop-i
invariant-same_items-loop-i l =
    are_same (plains_of (drop l.i (plains l.a))) (plains_of (drop l.i (plains l.b))) ≡ are_same (plains_of (plains l.a)) (plains_of (plains l.b))
