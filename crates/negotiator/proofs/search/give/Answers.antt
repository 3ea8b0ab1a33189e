use Rattle.std.proofs.Common.{Some, ap, sym, ◌∙◌}
use Rattle.std.specs.Prelude.{option_map}
use Rattle.claim_table.specs.declared.job.Job.{Job}
use Rattle.claim_table.specs.Table.{jobs_of}
use Rattle.negotiator.proofs.BudgetLemmas.{idle-within}
use Rattle.negotiator.proofs.JobLemmas.{idle-job}
use Rattle.negotiator.proofs.SearchLemmas.{name-is, offered-is}
use Rattle.negotiator.proofs.search.give.Goals as goal

pub job-requires : goal.job-requires
job-requires c = idle-within (jobs_of c.args.claims.now) c.args.i c.requires.idle

pub offer-requires-clause-idle : goal.offer-requires-clause-idle
offer-requires-clause-idle c =
    let one = idle-job (jobs_of c.args.claims.now) c.args.i c.requires.idle in
    ap (option_map (λ (job : Job). job.standing)) one.at ∙ ap Some one.idle

pub returns-clause-offered : goal.returns-clause-offered
returns-clause-offered c =
    offered-is (jobs_of c.args.claims.now) c.args.i c.args.slots _ _
    (c.in_ok-job.ensures.text ∙ sym (name-is (jobs_of c.args.claims.now) c.args.i c.job.result.now c.job.ensures))
    (c.in_ok-shown.ensures ∙ c.as_slice.ensures)
