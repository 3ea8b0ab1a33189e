use Rattle.std.proofs.Common.{◌≡◌, ◌+◌, ◌*◌}
use Rattle.slot_order.specs.Cells.{before}
use Rattle.slot_order.proofs.cells.Cells.nth.Given as goal

abbrev pub invariant-loop-block : goal.invariant-loop-block
invariant-loop-block l = before l.self-inside.cells.items (64 * l.block) + l.left ≡ l.i
