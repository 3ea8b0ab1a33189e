use Rattle.std.proofs.Common.{[], Some, slice_set, refl, sym, ◌∙◌, ap}
use Rattle.std.specs.Prelude.{option_map}
use Rattle.std.specs.Option.{option_map_or}
use Rattle.slab.specs.Slab.{with_value}
use Rattle.slab.proofs.SlabLemmas.{Updates-with_value}
use Rattle.slot_order.specs.Names.{slot_at}
use Rattle.claim_table.specs.declared.job.Job.{Job}
use Rattle.claim_table.specs.Listed.{jobs_at}
use Rattle.claim_table.proofs.ListedLemmas.{job-at, jobs-set, replaced_listed, there-at}
use Rattle.claim_table.proofs.job_list.JobList.restand.Goals as goal

pub index_mut-requires : goal.index_mut-requires
index_mut-requires c = let l = c.args.self.now in there-at l.table l.order c.args.i l.listed.filled c.slot-slot.result c.slot-slot.ensures.slot

pub returns-clause-was : goal.returns-clause-was
returns-clause-was c =
    let l = c.args.self.now in
    ap (option_map (λ (j : Job). j.standing)) (job-at l.table l.order c.args.i l.listed.filled c.slot-slot.result c.index_mut.result.now
    c.slot-slot.ensures.slot c.index_mut.ensures.value)
    ∙ ap (λ s. Some s) (sym c.replace.ensures.value)

pub returns-clause-jobs : goal.returns-clause-jobs
returns-clause-jobs c =
    let l = c.args.self.now in
    let i = c.args.i in
    let key = c.slot-slot.result in
    let job : Job = c.index_mut.result.now in
    let at = job-at l.table l.order i l.listed.filled key job c.slot-slot.ensures.slot c.index_mut.ensures.value in
    let later : Job = record job { standing = c.replace.new.dest } in
    jobs-set l.table (with_value l.table key later) key (Some later)
    (Updates-with_value l.table key later (there-at l.table l.order i l.listed.filled key c.slot-slot.ensures.slot)) later refl l.order i l.listed.filled
    c.slots_are_apart.ensures c.slot-slot.ensures.slot
    ∙ ap (λ s. slice_set (jobs_at l.table l.order) i (record job { standing = s })) c.replace.ensures.after
    ∙ sym (ap (λ o. option_map_or (λ j. slice_set (jobs_at l.table l.order) i (record j { standing = c.args.standing })) o (jobs_at l.table l.order)) at)

pub invariant_of-self : goal.invariant_of-self
invariant_of-self c =
    let l = c.args.self.now in
    let key = c.slot-slot.result in
    let job : Job = c.index_mut.result.now in
    let later : Job = record job { standing = c.replace.new.dest } in
    record {
      listed = replaced_listed l.table (with_value l.table key later) l.order (slot_at l.names) key l.listed later
          (Updates-with_value l.table key later (there-at l.table l.order c.args.i l.listed.filled key c.slot-slot.ensures.slot))
          (sym (ap (λ o. option_map_or (λ (j : Job). j.name) o []) c.index_mut.ensures.value));
    }
