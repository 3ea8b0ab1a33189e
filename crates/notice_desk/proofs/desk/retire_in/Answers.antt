use Rattle.std.proofs.Common.{get_or, refl, sym, ◌∙◌, arith, vec_capacity, vec_len}
use Rattle.notice_desk.proofs.EntryLemmas.{retires-marked, retires-start, retires-unmarked}
use Rattle.notice_desk.proofs.desk.retire_in.Goals.{then-retire_one, else-retire_one}
use Rattle.notice_desk.proofs.desk.retire_in.Goals as goal

pub loop-entry-init : goal.loop-entry-init
loop-entry-init g c =
    retires-start (λ b. (goal.Mailbox-dyn g (b.vtable, b.value)).taking b.value) c.args.entries.now c.args.left.now.items (vec_len c.args.left.now)
    (vec_capacity c.args.left.now) c.requires.room

pub loop-entry-preserved : goal.loop-entry-preserved
loop-entry-preserved g c = elim c.if-retire_one.branch [
  | then-retire_one w ↦ retires-marked (λ b. (goal.Mailbox-dyn g (b.vtable, b.value)).taking b.value) c.args.entries.now c.loop-entry.entries
      c.args.left.now.items c.loop-entry.left.items c.retire_one.new.left.items (vec_len c.loop-entry.left) (vec_capacity c.loop-entry.left)
      (vec_len c.retire_one.new.left) (vec_capacity c.retire_one.new.left) c.loop-entry.entry-index c.loop-entry.count c.if-retire_one.count
      (get_or c.loop-entry.entries c.loop-entry.entry-index c.entry-item.result) c.retire_one.new.entry c.entry-item.result c.loop-entry.invariant
      (omega (arith, c.loop-entry-test.true, c.loop-entry.auto.entry-index-end, c.loop-entry.auto.entries)) refl c.retire_one.ensures.row
      c.retire_one.ensures.left c.retire_one.ensures.len c.retire_one.ensures.capacity (sym c.retire_one.ensures.marked ∙ w.if-retire_one.true) w.count-is
  | else-retire_one w ↦ retires-unmarked (λ b. (goal.Mailbox-dyn g (b.vtable, b.value)).taking b.value) c.args.entries.now c.loop-entry.entries
      c.args.left.now.items c.loop-entry.left.items c.retire_one.new.left.items (vec_len c.loop-entry.left) (vec_capacity c.loop-entry.left)
      (vec_len c.retire_one.new.left) (vec_capacity c.retire_one.new.left) c.loop-entry.entry-index c.loop-entry.count c.if-retire_one.count
      (get_or c.loop-entry.entries c.loop-entry.entry-index c.entry-item.result) c.retire_one.new.entry c.entry-item.result c.loop-entry.invariant
      (omega (arith, c.loop-entry-test.true, c.loop-entry.auto.entry-index-end, c.loop-entry.auto.entries)) refl c.retire_one.ensures.row
      c.retire_one.ensures.left c.retire_one.ensures.len c.retire_one.ensures.capacity (sym c.retire_one.ensures.marked ∙ w.if-retire_one.false) w.count-is
]
