use Rattle.std.proofs.Common.{◌≡◌, ◌+◌, ◌*◌, ◌++◌, drop}
use Rattle.ad_value.specs.Operators.{weight_of, weights_of}
use Rattle.ad_value.specs.Plain.{plain, plains, plains_of}
use Rattle.ad_printer.specs.Values.{texts_behind}
use Rattle.ad_printer.proofs.value.+value.Given as goal

abbrev pub decreases-write_value : goal.decreases-write_value
decreases-write_value l = 2 * weight_of (plain l.v.now)

abbrev pub decreases-write_values : goal.decreases-write_values
decreases-write_values l = 2 * weights_of (plains_of (plains l.values.now)) + 1

abbrev pub invariant-write_values-loop-i : goal.invariant-write_values-loop-i
invariant-write_values-loop-i l =
    l.out.items ++ texts_behind (plains_of (drop l.i (plains l.values))) ≡ l.initial.out.items ++ texts_behind (plains_of (drop 1 (plains l.values)))
