use Rattle.std.proofs.Common.{arith, sym}
use Rattle.notice_desk.proofs.EntryLemmas.{absent-rows, boxes-remove, closes-entry, distinct-remove, known-none, known-there, leaves-none, within_names}
use Rattle.notice_desk.proofs.EntryLemmas.{without-entry}
use Rattle.notice_desk.proofs.RowLemmas.{without-absent}
use Rattle.notice_desk.specs.Sight.{left_rows, rows_of}
use Rattle.notice_desk.proofs.desk.DeskNotices.close.Goals as goal

pub returns-in_default-clause-known : goal.returns-in_default-clause-known
returns-in_default-clause-known g c =
    known-none (λ b. (goal.Mailbox-dyn g (b.vtable, b.value)).taking b.value) c.args.name.now c.args.self.now.entries.items c.in_default.ensures.absent

pub returns-in_default-clause-rows : goal.returns-in_default-clause-rows
returns-in_default-clause-rows g c =
    sym (without-absent c.args.name.now (rows_of (λ b. (goal.Mailbox-dyn g (b.vtable, b.value)).taking b.value) c.args.self.now.entries.items)
    (absent-rows (λ b. (goal.Mailbox-dyn g (b.vtable, b.value)).taking b.value) c.args.name.now c.args.self.now.entries.items c.in_default.ensures.absent))

pub invariant_of-self : goal.invariant_of-self
invariant_of-self g c =
    let within = within_names c.args.self.now.entries.items c.in-Some.i c.args.name.now c.in-Some.ensures.found in
    record {
      distinct =
          distinct-remove c.args.self.now.entries.items c.remove-entry.new.self.items c.in-Some.i c.remove-entry.ensures.items within c.args.self.now.distinct;
      room = omega (
        arith,
        c.args.self.now.room,
        c.keep_box.ensures.len,
        c.keep_box.ensures.capacity,
        boxes-remove c.args.self.now.entries.items c.remove-entry.new.self.items c.in-Some.i c.remove-entry.result c.remove-entry.result within
            c.remove-entry.ensures.value c.remove-entry.ensures.items,
      );
    }

pub returns-clause-known : goal.returns-clause-known
returns-clause-known g c =
    known-there (λ b. (goal.Mailbox-dyn g (b.vtable, b.value)).taking b.value) c.args.name.now c.args.self.now.entries.items c.in-Some.i c.remove-entry.result
    c.remove-entry.result c.in-Some.ensures.found c.remove-entry.ensures.value c.args.self.now.distinct

pub returns-clause-rows : goal.returns-clause-rows
returns-clause-rows g c =
    without-entry (λ b. (goal.Mailbox-dyn g (b.vtable, b.value)).taking b.value) c.args.name.now c.args.self.now.entries.items c.remove-entry.new.self.items
    c.in-Some.i c.remove-entry.result c.remove-entry.result c.in-Some.ensures.found c.remove-entry.ensures.value c.args.self.now.distinct
    c.remove-entry.ensures.items

pub returns-in_default-clause-left : goal.returns-in_default-clause-left
returns-in_default-clause-left g c =
    leaves-none (λ b. (goal.Mailbox-dyn g (b.vtable, b.value)).taking b.value) c.args.name.now c.args.self.now.entries.items
    (left_rows (λ b. (goal.Mailbox-dyn g (b.vtable, b.value)).taking b.value) c.args.self.now.left.items) c.in_default.ensures.absent

pub returns-clause-left : goal.returns-clause-left
returns-clause-left g c =
    closes-entry (λ b. (goal.Mailbox-dyn g (b.vtable, b.value)).taking b.value) c.args.name.now c.args.self.now.entries.items c.in-Some.i c.remove-entry.result
    c.remove-entry.result (left_rows (λ b. (goal.Mailbox-dyn g (b.vtable, b.value)).taking b.value) c.args.self.now.left.items)
    (left_rows (λ b. (goal.Mailbox-dyn g (b.vtable, b.value)).taking b.value) c.keep_box.new.left.items) c.in-Some.ensures.found
    c.remove-entry.ensures.value c.args.self.now.distinct c.keep_box.ensures.left
