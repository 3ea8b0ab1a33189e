use Rattle.std.proofs.Common.{◌≡◌, drop}
use Rattle.std.specs.List.{list_any}
use Rattle.ad_value.specs.Plain.{plains}
use Rattle.builtin_funcs.specs.Kinds.{is_decimal}
use Rattle.builtin_funcs.proofs.aggregates.any_decimal.Given as goal

abbrev pub invariant-loop-i : goal.invariant-loop-i
invariant-loop-i l = list_any is_decimal (drop l.i (plains l.items)) ≡ list_any is_decimal (plains l.items)
