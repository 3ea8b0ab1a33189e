use Rattle.std.proofs.Common.{◌≡◌, drop}
use Rattle.std.specs.List.{list_any}
use Rattle.ad_value.specs.Plain.{plains}
use Rattle.ad_value.specs.Plain.{plain}
use Rattle.ad_value.specs.Operators.{is_same}
use Rattle.builtin_funcs.proofs.lists.any_same.Given as goal

abbrev pub invariant-loop-i : goal.invariant-loop-i
invariant-loop-i l = list_any (is_same (plain l.x)) (drop l.i (plains l.items)) ≡ list_any (is_same (plain l.x)) (plains l.items)
