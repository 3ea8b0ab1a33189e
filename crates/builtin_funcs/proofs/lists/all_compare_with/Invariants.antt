use Rattle.std.proofs.Common.{◌≡◌, drop}
use Rattle.std.specs.List.{list_all}
use Rattle.ad_value.specs.Plain.{plains}
use Rattle.ad_value.specs.Plain.{plain}
use Rattle.builtin_funcs.specs.Lists.{compares}
use Rattle.builtin_funcs.proofs.lists.all_compare_with.Given as goal

abbrev pub invariant-loop-i : goal.invariant-loop-i
invariant-loop-i l = list_all (λ e. compares l.op e (plain l.x)) (drop l.i (plains l.items)) ≡ list_all (λ e. compares l.op e (plain l.x)) (plains l.items)
