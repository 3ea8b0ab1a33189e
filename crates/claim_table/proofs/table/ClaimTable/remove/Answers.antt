use Rattle.std.proofs.Common.{◌∙◌, ap, sym}
use Rattle.std.specs.List.{remove}
use Rattle.claim_table.specs.declared.job.Stage.{Stage}
use Rattle.claim_table.specs.JobList.{jobs_in}
use Rattle.claim_table.specs.Answers.{without_at}
use Rattle.claim_table.proofs.ChangeLemmas.{remove-with_standing}
use Rattle.claim_table.proofs.table.ClaimTable.remove.Goals as goal

pub returns-clause-jobs : goal.returns-clause-jobs
returns-clause-jobs c =
    let jobs = jobs_in c.args.self.now.jobs in
    let i = c.in-Some.i in
    c.take_out.ensures ∙ ap (λ l. remove l i) c.free-slots.ensures.jobs ∙ remove-with_standing jobs i Stage.Idle
    ∙ ap (λ o. without_at o jobs) (sym c.in-Some.is ∙ c.number.ensures.number)
