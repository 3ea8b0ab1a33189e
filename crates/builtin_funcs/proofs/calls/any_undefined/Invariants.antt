use Rattle.std.proofs.Common.{◌≡◌, slice_range}
use Rattle.std.specs.List.{list_any}
use Rattle.ad_value.specs.Plain.{plains}
use Rattle.builtin_funcs.specs.Kinds.{is_undefined}
use Rattle.builtin_funcs.proofs.calls.any_undefined.Given as goal

abbrev pub invariant-loop-i : goal.invariant-loop-i
invariant-loop-i l = list_any is_undefined (slice_range (plains l.args) l.i l.end) ≡ list_any is_undefined (slice_range (plains l.args) l.first l.end)
