use Rattle.std.proofs.Common.{◌≡◌, drop}
use Rattle.std.specs.List.{list_all}
use Rattle.ad_value.specs.Plain.{plains}
use Rattle.builtin_funcs.specs.Kinds.{is_scalar}
use Rattle.builtin_funcs.proofs.texts.all_scalars.Given as goal

abbrev pub invariant-loop-i : goal.invariant-loop-i
invariant-loop-i l = list_all is_scalar (drop l.i (plains l.args)) ≡ list_all is_scalar (plains l.args)
