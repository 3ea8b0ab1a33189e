use Rattle.std.proofs.Common.{sym, ◌∙◌}
use Rattle.notice_desk.proofs.EntryLemmas.{known-found, known-absent, unknown}
use Rattle.notice_desk.proofs.desk.Desk.add.Goals as goal

pub returns-then-is_some-clause-in_use : goal.returns-then-is_some-clause-in_use
returns-then-is_some-clause-in_use g c =
    known-found (λ b. (goal.Mailbox-dyn g (b.vtable, b.value)).taking b.value) c.args.name.now c.args.self.now.entries.items c.place_of.result
    c.place_of.ensures.found (sym c.is_some.ensures ∙ c.if-is_some.true)

pub returns-in_default-clause-in_use : goal.returns-in_default-clause-in_use
returns-in_default-clause-in_use g c =
    known-absent (λ b. (goal.Mailbox-dyn g (b.vtable, b.value)).taking b.value) c.args.name.now c.args.self.now.entries.items c.place_of.result
    c.place_of.ensures.absent (sym c.is_some.ensures ∙ c.if-is_some.false)

pub returns-then-is_err-clause-in_use : goal.returns-then-is_err-clause-in_use
returns-then-is_err-clause-in_use g c =
    known-absent (λ b. (goal.Mailbox-dyn g (b.vtable, b.value)).taking b.value) c.args.name.now c.args.self.now.entries.items c.place_of.result
    c.place_of.ensures.absent (sym c.is_some.ensures ∙ c.if-is_some.false)

pub returns-clause-in_use : goal.returns-clause-in_use
returns-clause-in_use g c =
    unknown (λ b. (goal.Mailbox-dyn g (b.vtable, b.value)).taking b.value) c.args.name.now c.args.self.now.entries.items c.place_of.result
    c.place_of.ensures.absent (sym c.is_some.ensures ∙ c.if-is_some.false)

pub returns-in_default-from_bytes-clause-in_use : goal.returns-in_default-from_bytes-clause-in_use
returns-in_default-from_bytes-clause-in_use g c =
    known-absent (λ b. (goal.Mailbox-dyn g (b.vtable, b.value)).taking b.value) c.args.name.now c.args.self.now.entries.items c.place_of.result
    c.place_of.ensures.absent (sym c.is_some.ensures ∙ c.if-is_some.false)
