use Rattle.std.proofs.Common.{ap, sym, ◌∙◌}
use Rattle.notice_desk.proofs.EntryLemmas.{absent-rows, box-entry}
use Rattle.notice_desk.proofs.RowLemmas.{box-absent}
use Rattle.notice_desk.specs.Desk.{told_by}
use Rattle.notice_desk.specs.Sight.{rows_of}
use Rattle.notice_desk.proofs.desk.DeskNotices.shown.Goals as goal

pub returns-in_default : goal.returns-in_default
returns-in_default g c =
    sym (ap told_by (box-absent c.args.name.now (rows_of (λ b. (goal.Mailbox-dyn g (b.vtable, b.value)).taking b.value) c.args.self.now.entries.items)
    (absent-rows (λ b. (goal.Mailbox-dyn g (b.vtable, b.value)).taking b.value) c.args.name.now c.args.self.now.entries.items
    c.in_default.ensures.absent)))

pub returns : goal.returns
returns g c =
    c.shown.ensures ∙ sym (ap told_by (box-entry (λ b. (goal.Mailbox-dyn g (b.vtable, b.value)).taking b.value) c.args.name.now c.args.self.now.entries.items
    c.in-Some.i c.index.result.now c.index.result.now c.in-Some.ensures.found c.index.ensures c.args.self.now.distinct))
