use Rattle.std.proofs.Common.{◌≡◌, drop}
use Rattle.std.specs.List.{list_any}
use Rattle.ad_value.specs.Plain.{plains}
use Rattle.pool_text.specs.declared.language.BinOp.{BinOp}
use Rattle.ad_value.specs.Plain.{plain}
use Rattle.builtin_funcs.specs.Lists.{compares}
use Rattle.builtin_funcs.proofs.lists.any_equal.Given as goal

abbrev pub invariant-loop-i : goal.invariant-loop-i
invariant-loop-i l = list_any (compares BinOp.Equal (plain l.x)) (drop l.i (plains l.items)) ≡ list_any (compares BinOp.Equal (plain l.x)) (plains l.items)
