use Rattle.slot_order.specs.Names.{slot_at}
use Rattle.claim_table.proofs.ListedLemmas.{named-apart}
use Rattle.claim_table.proofs.job_list.JobList.names_are_apart.Goals as goal

pub returns : goal.returns
returns c = let l = c.args.self.now in named-apart l.table l.order (slot_at l.names) l.listed c.slots_are_apart.ensures
