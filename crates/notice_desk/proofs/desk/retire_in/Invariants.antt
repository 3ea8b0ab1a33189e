use Rattle.std.proofs.Common.{vec_capacity, vec_len}
use Rattle.notice_desk.proofs.EntryLemmas.{RetiresFirst}
use Rattle.notice_desk.proofs.desk.retire_in.Given as goal

abbrev pub invariant-loop-entry : goal.invariant-loop-entry
invariant-loop-entry g l =
    RetiresFirst (λ b. (goal.Mailbox-dyn g (b.vtable, b.value)).taking b.value) l.initial.entries l.entries l.initial.left.items l.left.items
    (vec_len l.left) (vec_capacity l.left) l.entry-index l.count
