use Rattle.std.proofs.Common.{◌≡◌, [], ℕ, List, Some, None, cond, bytes_eq, sym, ◌∙◌, ap, subst}
use Rattle.std.specs.Option.{option_map_or}
use Rattle.slot_order.specs.Names.{slot_at}
use Rattle.ad_store.proofs.HeldLemmas.{among-at}
use Rattle.claim_table.specs.Listed.{AreListed, jobs_at, name_in}
use Rattle.claim_table.proofs.ListedLemmas.{gone_listed, job-at, jobs-remove, slots-remove, there-at}
use Rattle.claim_table.proofs.job_list.JobList.remove.Goals as goal

pub remove-job-requires : goal.remove-job-requires
remove-job-requires c = let l = c.args.self.now in there-at l.table l.order c.args.i l.listed.filled c.slot-slot.result c.slot-slot.ensures.slot

pub returns-clause-was : goal.returns-clause-was
returns-clause-was c =
    let l =
    c.args.self.now in job-at l.table l.order c.args.i l.listed.filled c.slot-slot.result c.remove-job.result c.slot-slot.ensures.slot
    c.remove-job.ensures.value

pub returns-clause-jobs : goal.returns-clause-jobs
returns-clause-jobs c =
    let l = c.args.self.now in
    ap (jobs_at c.remove-job.new.self) c.remove-2.ensures.left
    ∙ jobs-remove l.table c.remove-job.new.self c.slot-slot.result None c.remove-job.ensures.updates l.order c.args.i l.listed.filled
    c.slots_are_apart.ensures c.slot-slot.ensures.slot

pub returns-clause-slots : goal.returns-clause-slots
returns-clause-slots c =
    let l = c.args.self.now in c.remove-2.ensures.left ∙ slots-remove l.order c.args.i c.slot-slot.result c.slots_are_apart.ensures c.slot-slot.ensures.slot

pub invariant_of-self : goal.invariant_of-self
invariant_of-self c =
    let l = c.args.self.now in
    let key = c.slot-slot.result in
    let job = c.remove-job.result in
    let named : name_in l.table key ≡ job.name = ap (λ o. option_map_or (λ j. j.name) o []) c.remove-job.ensures.value in
    let told : slot_at l.names job.name ≡ Some key =
    ap (slot_at l.names) (sym named) ∙ l.listed.led key (among-at l.order c.args.i key c.slot-slot.ensures.slot) in
    record {
      listed = subst (λ s. AreListed c.remove-job.new.self s (slot_at c.remove.new.self)) (sym c.remove-2.ensures.left)
          (gone_listed l.table c.remove-job.new.self l.order (slot_at l.names) key l.listed (slot_at c.remove.new.self) job.name c.remove-job.ensures.updates
          c.slots_are_apart.ensures told
          (subst (λ n. (other : List ℕ) → slot_at c.remove.new.self other ≡ cond (bytes_eq n other) None (slot_at l.names other)) c.bytes.ensures
          c.remove.ensures));
    }
