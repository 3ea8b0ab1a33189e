use Rattle.std.proofs.Common.{◌≡◌, drop}
use Rattle.std.specs.List.{list_all}
use Rattle.ad_value.specs.Plain.{plains}
use Rattle.builtin_funcs.specs.Aggregates.{may_be_number}
use Rattle.builtin_funcs.proofs.aggregates.all_may_be_numbers.Given as goal

abbrev pub invariant-loop-i : goal.invariant-loop-i
invariant-loop-i l = list_all may_be_number (drop l.i (plains l.items)) ≡ list_all may_be_number (plains l.items)
