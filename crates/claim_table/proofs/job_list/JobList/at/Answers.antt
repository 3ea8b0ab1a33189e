use Rattle.claim_table.proofs.ListedLemmas.{job-at, there-at}
use Rattle.claim_table.proofs.job_list.JobList.at.Goals as goal

pub index-requires : goal.index-requires
index-requires c = let l = c.args.self.now in there-at l.table l.order c.args.i l.listed.filled c.slot.result c.slot.ensures.slot

pub returns : goal.returns
returns c = let l = c.args.self.now in job-at l.table l.order c.args.i l.listed.filled c.slot.result c.index.result.now c.slot.ensures.slot c.index.ensures
