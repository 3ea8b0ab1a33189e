use Rattle.std.proofs.Common.{take}
use Rattle.notice_desk.specs.Names.{IsAbsent}
use Rattle.notice_desk.specs.Sight.{entry_names}
use Rattle.notice_desk.proofs.desk.place_in.Given as goal

abbrev pub invariant-loop-i : goal.invariant-loop-i
invariant-loop-i g l = IsAbsent l.name (take l.i (entry_names l.entries))
