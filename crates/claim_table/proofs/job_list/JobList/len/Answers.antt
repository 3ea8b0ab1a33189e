use Rattle.std.proofs.Common.{sym, ◌∙◌}
use Rattle.claim_table.proofs.ListedLemmas.{length-jobs}
use Rattle.claim_table.proofs.job_list.JobList.len.Goals as goal

pub returns : goal.returns
returns c = let l = c.args.self.now in c.len.ensures ∙ sym (length-jobs l.table l.order l.listed.filled)
