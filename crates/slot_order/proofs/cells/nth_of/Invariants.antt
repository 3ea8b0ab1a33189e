use Rattle.std.proofs.Common.{◌≡◌, drop, slice_get}
use Rattle.slot_order.specs.Cells.{listed}
use Rattle.slot_order.proofs.cells.nth_of.Given as goal

abbrev pub invariant-loop-k : goal.invariant-loop-k
invariant-loop-k l = slice_get (listed (drop l.k l.cells)) l.left ≡ slice_get (listed l.cells) l.i
