use Rattle.std.proofs.Common.{◌≡◌, false, take}
use Rattle.pool_books.specs.Queue.{is_listed}
use Rattle.pool_state.proofs.notices.has_name.Given as goal

abbrev pub invariant-loop-other : goal.invariant-loop-other
invariant-loop-other l = is_listed l.name (take l.other-index l.names) ≡ false
