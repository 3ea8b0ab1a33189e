use Rattle.std.proofs.Common.{◌≡◌}
use Rattle.std.specs.Int.{int_max}
use Rattle.ad_value.specs.Plain.{plains}
use Rattle.builtin_funcs.specs.Aggregates.{chosen_of}
use Rattle.builtin_funcs.proofs.Running.{amounts_from, chosen_with}
use Rattle.builtin_funcs.proofs.aggregates.greatest.Given as goal

abbrev pub invariant-loop-i : goal.invariant-loop-i
invariant-loop-i l =
    chosen_with int_max l.greatest (amounts_from l.decimals l.i (plains l.items)) ≡ chosen_of int_max (amounts_from l.decimals 0 (plains l.items))
