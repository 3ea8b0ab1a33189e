use Rattle.std.proofs.Common.{Some, sym, ◌∙◌, ap}
use Rattle.claim_table.proofs.ListedLemmas.{place-some, within-order}
use Rattle.claim_table.proofs.job_list.JobList.slot.Goals as goal

pub returns-clause-slot : goal.returns-clause-slot
returns-clause-slot c =
    let l = c.args.self.now in
    within-order l.table l.order c.args.i l.listed.filled c.at.result c.requires c.at.ensures ∙ ap (λ k. Some k) (sym c.unwrap_or.ensures)

pub returns-clause-number : goal.returns-clause-number
returns-clause-number c = let l = c.args.self.now in place-some l.order c.args.i c.unwrap_or.result c.slots_are_apart.ensures (returns-clause-slot c)
