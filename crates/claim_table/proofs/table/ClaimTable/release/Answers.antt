use Rattle.std.proofs.Common.{◌≡◌, ◌≢◌, ◌∙◌, Some, ap, rules, slice_get, sym}
use Rattle.claim_table.specs.declared.answers.JobState.{JobState}
use Rattle.claim_table.specs.Jobs.{idle_at, state_of}
use Rattle.claim_table.specs.Table.{jobs_of}
use Rattle.claim_table.proofs.ClaimLemmas.{released-held, released-idle, released-nobody}
use Rattle.claim_table.proofs.table.ClaimTable.release.Goals as goal

pub returns-in_default-clause-answer : goal.returns-in_default-clause-answer
returns-in_default-clause-answer c = sym (released-nobody c.args.name.now (jobs_of c.args.self.now) (sym c.number.ensures.number ∙ c.in_default.is))

pub returns-then-eq-clause-answer : goal.returns-then-eq-clause-answer
returns-then-eq-clause-answer c =
    let jobs = jobs_of c.args.self.now in
    let i = c.in-Some.i in
    let job = c.at.result.now in
    let at : slice_get jobs i ≡ Some job = c.at.ensures in
    let idle : state_of job.standing ≡ JobState.Idle = search rules in
    sym (released-idle c.args.name.now jobs i job (sym c.in-Some.ensures.number) at idle)

pub returns-clause-answer : goal.returns-clause-answer
returns-clause-answer c =
    let jobs = jobs_of c.args.self.now in
    let i = c.in-Some.i in
    let job = c.at.result.now in
    let at : slice_get jobs i ≡ Some job = c.at.ensures in
    let busy : state_of job.standing ≢ JobState.Idle = search rules in
    released-held c.args.name.now jobs i job (sym c.in-Some.ensures.number) at c.free.result busy c.free.ensures.slots

pub returns-clause-ok : goal.returns-clause-ok
returns-clause-ok c = c.free.ensures.jobs ∙ ap (λ o. idle_at o (jobs_of c.args.self.now)) c.in-Some.ensures.number
