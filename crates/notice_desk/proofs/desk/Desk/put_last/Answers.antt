use Rattle.notice_desk.proofs.EntryLemmas.{boxes-pushed, distinct-push}
use Rattle.notice_desk.proofs.desk.Desk.put_last.Goals as goal

pub invariant_of-self : goal.invariant_of-self
invariant_of-self g c = record {
  distinct = distinct-push c.args.self.now.entries.items _ _ c.push_reserved.ensures.items c.args.self.now.distinct c.requires.absent;
  room = boxes-pushed c.args.self.now.entries.items _ _ _ _ c.push_reserved.ensures.items c.requires.left_room;
}
