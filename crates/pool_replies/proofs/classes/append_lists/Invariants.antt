use Rattle.std.proofs.Common.{◌≡◌, ◌++◌, ◌+◌, drop}
use Rattle.pool_replies.specs.Classes.{class_lines}
use Rattle.pool_replies.proofs.classes.append_lists.Given as goal

abbrev pub invariant-loop-i : goal.invariant-loop-i
invariant-loop-i l = l.out ++ class_lines (l.i + 1) (drop l.i l.lists) ≡ l.initial.out ++ class_lines 1 l.lists
