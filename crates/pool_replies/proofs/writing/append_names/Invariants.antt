use Rattle.std.proofs.Common.{◌≡◌, ◌++◌, take}
use Rattle.pool_replies.specs.Cycles.{with_blanks}
use Rattle.pool_replies.proofs.writing.append_names.Given as goal

abbrev pub invariant-loop-name : goal.invariant-loop-name
invariant-loop-name l = l.out ≡ l.initial.out ++ with_blanks (take l.name-index l.names)
