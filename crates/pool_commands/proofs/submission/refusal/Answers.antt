use Rattle.std.proofs.Common.{is_some, sym, ◌∙◌, ap, arith}
use Rattle.ad_store.specs.Store.{stock_of}
use Rattle.claim_table.specs.Jobs.{state_of}
use Rattle.claim_table.specs.Table.{jobs_of}
use Rattle.pool_commands.proofs.SubmitLemmas.{known-queued, refusal-full, refusal-name, refusal-none, refusal-text}
use Rattle.pool_commands.proofs.submission.refusal.Goals as goal

pub returns-then-is_some-clause-reason : goal.returns-then-is_some-clause-reason
returns-then-is_some-clause-reason c =
    let stock = stock_of c.args.books.now.ads.store in
    let jobs = jobs_of c.args.books.now.claims in
    let known = sym (known-queued (λ job. state_of job.standing) stock c.args.name.now jobs) ∙ ap is_some (sym c.state.ensures) ∙ sym c.is_some.ensures in
    sym (refusal-name stock c.args.name.now c.args.size jobs (known ∙ c.if-is_some.true))

pub returns-then-len-ge-JOBS_LIMIT-clause-reason : goal.returns-then-len-ge-JOBS_LIMIT-clause-reason
returns-then-len-ge-JOBS_LIMIT-clause-reason c =
    let stock = stock_of c.args.books.now.ads.store in
    let jobs = jobs_of c.args.books.now.claims in
    let known = sym (known-queued (λ job. state_of job.standing) stock c.args.name.now jobs) ∙ ap is_some (sym c.state.ensures) ∙ sym c.is_some.ensures in
    sym (refusal-full stock c.args.name.now c.args.size jobs (known ∙ c.if-is_some.false) (omega (arith, c.len.ensures.len)))

pub returns-then-saturating_add-gt-TEXT_LIMIT-clause-reason : goal.returns-then-saturating_add-gt-TEXT_LIMIT-clause-reason
returns-then-saturating_add-gt-TEXT_LIMIT-clause-reason c =
    let stock = stock_of c.args.books.now.ads.store in
    let jobs = jobs_of c.args.books.now.claims in
    let known = sym (known-queued (λ job. state_of job.standing) stock c.args.name.now jobs) ∙ ap is_some (sym c.state.ensures) ∙ sym c.is_some.ensures in
    sym (refusal-text stock c.args.name.now c.args.size jobs (known ∙ c.if-is_some.false) (omega (arith, c.len.ensures.len))
    (omega (arith, c.text_len.ensures.text, c.saturating_add.ensures)))

pub returns-clause-reason : goal.returns-clause-reason
returns-clause-reason c =
    let stock = stock_of c.args.books.now.ads.store in
    let jobs = jobs_of c.args.books.now.claims in
    let known = sym (known-queued (λ job. state_of job.standing) stock c.args.name.now jobs) ∙ ap is_some (sym c.state.ensures) ∙ sym c.is_some.ensures in
    sym (refusal-none stock c.args.name.now c.args.size jobs (known ∙ c.if-is_some.false) (omega (arith, c.len.ensures.len))
    (omega (arith, c.text_len.ensures.text, c.saturating_add.ensures)))
