use Rattle.std.proofs.Common.{◌≡◌, ◌++◌, take}
use Rattle.pool_replies.specs.Cycles.{with_blanks}
use Rattle.pool_state.proofs.notices.append_names.Given as goal

abbrev pub invariant-loop-name : goal.invariant-loop-name
invariant-loop-name l = l.line ≡ l.initial.line ++ with_blanks (take l.name-index l.names)
