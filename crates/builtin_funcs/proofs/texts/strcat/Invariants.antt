use Rattle.std.proofs.Common.{◌≡◌, ◌++◌, drop}
use Rattle.std.specs.List.{flat_map}
use Rattle.ad_value.specs.Plain.{plains}
use Rattle.builtin_funcs.specs.Texts.{written}
use Rattle.builtin_funcs.proofs.texts.strcat.Given as goal

abbrev pub invariant-loop-i : goal.invariant-loop-i
invariant-loop-i l = l.out ++ flat_map written (drop l.i (plains l.args)) ≡ flat_map written (plains l.args)
