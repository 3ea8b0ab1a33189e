use Rattle.std.proofs.Common.{arith}
use Rattle.notice_desk.proofs.EntryLemmas.{boxes-few}
use Rattle.notice_desk.proofs.desk.Desk.make_room.Goals as goal

pub returns-clause-left_room : goal.returns-clause-left_room
returns-clause-left_room g c =
    let entries = c.reserve.new.self in
    omega (arith, boxes-few entries.items, c.in_ok-reserve-2.ensures.ok, c.len.ensures, entries.ok.0)
