use Rattle.std.proofs.Common.{ℕ, List, sym, ◌∙◌, ap}
use Rattle.pool_books.specs.Books.{queue_of, state_with}
use Rattle.pool_books.specs.Indexed.{ads_of}
use Rattle.pool_books.specs.State.{State}
use Rattle.pool_commands.specs.Jobs.{remove}
use Rattle.pool_commands.proofs.SubmitLemmas.{remove-held, remove-unknown}
use Rattle.pool_commands.proofs.submission.remove.Goals as goal

pub returns-then-remove-clause-step : goal.returns-then-remove-clause-step
returns-then-remove-clause-step c = λ moment priorities.
    let s : State = state_with moment priorities c.args.books.now in
    ap (λ (name : List ℕ). remove s name) (sym c.bytes.ensures)
    ∙ remove-held s c.bytes.result.now c.in_ok-named.named (ads_of c.remove.new.self.ads) (queue_of c.remove.new.self)
    (sym c.remove.ensures.held ∙ c.if-remove.true) (ap ads_of c.remove.ensures.ads) c.remove.ensures.jobs (c.in_ok-named.ensures.text ∙ sym c.bytes.ensures)

pub returns-else-remove-clause-step : goal.returns-else-remove-clause-step
returns-else-remove-clause-step c = λ moment priorities.
    let s : State = state_with moment priorities c.args.books.now in
    ap (λ (name : List ℕ). remove s name) (sym c.bytes.ensures)
    ∙ remove-unknown s c.bytes.result.now (ads_of c.remove.new.self.ads) (queue_of c.remove.new.self) (sym c.remove.ensures.held ∙ c.if-remove.false)
    (ap ads_of c.remove.ensures.ads) c.remove.ensures.jobs
