use Rattle.std.proofs.Common.{◌∙◌, is_some, ap, arith, sym}
use Rattle.claim_table.specs.Jobs.{numbered}
use Rattle.claim_table.specs.JobList.{jobs_in}
use Rattle.claim_table.proofs.ChangeLemmas.{among-numbered, none-of, refusal-full, refusal-in_use, refusal-none, refusal-text}
use Rattle.claim_table.proofs.table.ClaimTable.refusal.Goals as goal

pub returns-then-is_some-clause-cause : goal.returns-then-is_some-clause-cause
returns-then-is_some-clause-cause c =
    let t = c.args.self.now in
    let jobs = jobs_in t.jobs in
    refusal-in_use jobs c.args.name.now c.args.text_len t.text t.kept.counted
    (among-numbered c.args.name.now jobs ∙ ap is_some (sym c.number.ensures.number) ∙ sym c.is_some.ensures ∙ c.if-is_some.true)

pub returns-then-len-ge-JOBS_LIMIT-clause-cause : goal.returns-then-len-ge-JOBS_LIMIT-clause-cause
returns-then-len-ge-JOBS_LIMIT-clause-cause c =
    let t = c.args.self.now in
    let jobs = jobs_in t.jobs in
    refusal-full jobs c.args.name.now c.args.text_len t.text t.kept.counted
    (among-numbered c.args.name.now jobs ∙ ap is_some (sym c.number.ensures.number) ∙ sym c.is_some.ensures ∙ c.if-is_some.false)
    (omega (arith, c.len.ensures))

pub returns-then-saturating_add-gt-TEXT_LIMIT-clause-cause : goal.returns-then-saturating_add-gt-TEXT_LIMIT-clause-cause
returns-then-saturating_add-gt-TEXT_LIMIT-clause-cause c =
    let t = c.args.self.now in
    let jobs = jobs_in t.jobs in
    refusal-text jobs c.args.name.now c.args.text_len t.text t.kept.counted
    (among-numbered c.args.name.now jobs ∙ ap is_some (sym c.number.ensures.number) ∙ sym c.is_some.ensures ∙ c.if-is_some.false)
    (omega (arith, c.len.ensures))
    (omega (arith, c.saturating_add.ensures))

pub returns-clause-none : goal.returns-clause-none
returns-clause-none c =
    let t = c.args.self.now in
    let jobs = jobs_in t.jobs in
    refusal-none jobs c.args.name.now c.args.text_len t.text t.kept.counted
    (among-numbered c.args.name.now jobs ∙ ap is_some (sym c.number.ensures.number) ∙ sym c.is_some.ensures ∙ c.if-is_some.false)
    (omega (arith, c.len.ensures))
    (omega (arith, c.saturating_add.ensures))

pub returns-clause-new : goal.returns-clause-new
returns-clause-new c =
    none-of (numbered c.args.name.now (jobs_in c.args.self.now.jobs))
    (ap is_some (sym c.number.ensures.number) ∙ sym c.is_some.ensures ∙ c.if-is_some.false)
