use Rattle.notice_desk.proofs.EntryLemmas.{distinct-rows}
use Rattle.notice_desk.proofs.desk.DeskNotices.len.Goals as goal

pub returns-clause-distinct : goal.returns-clause-distinct
returns-clause-distinct g c =
    distinct-rows (λ b. (goal.Mailbox-dyn g (b.vtable, b.value)).taking b.value) c.args.self.now.entries.items c.args.self.now.distinct
