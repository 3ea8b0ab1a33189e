use Rattle.std.proofs.Common.{arith}
use Rattle.notice_desk.proofs.EntryLemmas.{absent-rows, boxes-set, distinct-set, no_box-entry, no_box-none, posts-entry, within_names}
use Rattle.notice_desk.proofs.RowLemmas.{posts-absent}
use Rattle.notice_desk.specs.Sight.{rows_of}
use Rattle.notice_desk.specs.declared.notices.PostEnd.TheVariants.{NoBox}
use Rattle.notice_desk.proofs.desk.DeskNotices.post.Goals as goal

pub returns-in_default-clause-no_box : goal.returns-in_default-clause-no_box
returns-in_default-clause-no_box g c =
    no_box-none (λ b. (goal.Mailbox-dyn g (b.vtable, b.value)).taking b.value) c.args.name.now c.args.self.now.entries.items c.in_default.ensures.absent

pub returns-in_default-clause-rows : goal.returns-in_default-clause-rows
returns-in_default-clause-rows g c =
    posts-absent c.args.name.now c.args.notice.now NoBox (rows_of (λ b. (goal.Mailbox-dyn g (b.vtable, b.value)).taking b.value) c.args.self.now.entries.items)
    (absent-rows (λ b. (goal.Mailbox-dyn g (b.vtable, b.value)).taking b.value) c.args.name.now c.args.self.now.entries.items c.in_default.ensures.absent)

pub invariant_of-self : goal.invariant_of-self
invariant_of-self g c =
    record {
      distinct =
          distinct-set c.args.self.now.entries.items c.in-Some.i c.index_mut-entry.result.now c.post.new.self c.index_mut-entry.result.now
          c.index_mut-entry.ensures.value c.post.ensures.row.name c.args.self.now.distinct;
      room =
          omega (
            arith,
            c.args.self.now.room,
            c.post.ensures.boxes,
            boxes-set c.args.self.now.entries.items c.in-Some.i c.index_mut-entry.result.now c.post.new.self c.index_mut-entry.result.now
                (within_names c.args.self.now.entries.items c.in-Some.i c.args.name.now c.in-Some.ensures.found) c.index_mut-entry.ensures.value,
          );
    }

pub returns-clause-no_box : goal.returns-clause-no_box
returns-clause-no_box g c =
    no_box-entry (λ b. (goal.Mailbox-dyn g (b.vtable, b.value)).taking b.value) c.args.name.now c.args.notice.now c.post.result c.args.self.now.entries.items
    c.in-Some.i c.index_mut-entry.result.now c.post.new.self c.index_mut-entry.result.now c.in-Some.ensures.found c.index_mut-entry.ensures.value
    c.args.self.now.distinct c.post.ensures.row

pub returns-clause-rows : goal.returns-clause-rows
returns-clause-rows g c =
    posts-entry (λ b. (goal.Mailbox-dyn g (b.vtable, b.value)).taking b.value) c.args.name.now c.args.notice.now c.post.result c.args.self.now.entries.items
    c.in-Some.i c.index_mut-entry.result.now c.post.new.self c.index_mut-entry.result.now c.in-Some.ensures.found c.index_mut-entry.ensures.value
    c.args.self.now.distinct c.post.ensures.row
