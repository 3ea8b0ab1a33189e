use Rattle.std.proofs.Common.{length, map, ap, ◌∙◌, arith, vec_capacity, vec_len}
use Rattle.notice_desk.specs.Desk.{retired}
use Rattle.notice_desk.specs.Sight.{rows_of}
use Rattle.notice_desk.proofs.EntryLemmas.{boxes-kept, distinct-retired}
use Rattle.notice_desk.proofs.ListLemmas.{written_over}
use Rattle.notice_desk.proofs.desk.DeskNotices.retire_failed.Goals as goal

pub invariant_of-self : goal.invariant_of-self
invariant_of-self g c =
    let vec = c.args.self.now.entries in
    let changed = c.retire_in.new.entries in
    let rows =
    c.retire_in.ensures.rows ∙ ap (λ es. map retired (rows_of (λ b. (goal.Mailbox-dyn g (b.vtable, b.value)).taking b.value)
    es)) c.deref_mut.ensures.value in
    let whole = written_over vec.items changed vec.len (omega (arith, c.retire_in.auto.entries, ap length c.deref_mut.ensures.value)) vec.ok.0 in
    record {
      distinct = distinct-retired (λ b. (goal.Mailbox-dyn g (b.vtable, b.value)).taking b.value) vec.items changed _ whole rows c.args.self.now.distinct;
      room = boxes-kept changed _ (vec_len c.retire_in.new.left) (vec_capacity c.retire_in.new.left) whole c.retire_in.ensures.room;
    }
