use Rattle.std.proofs.Common.{ℕ, List, sym, ◌∙◌, ap}
use Rattle.pool_books.specs.Books.{queue_of, state_with}
use Rattle.pool_books.specs.Indexed.{ads_of}
use Rattle.pool_books.specs.State.{State}
use Rattle.pool_commands.specs.Ads.{withdraw}
use Rattle.pool_commands.proofs.StepLemmas.{withdraw-held, withdraw-unknown}
use Rattle.pool_commands.proofs.ads.withdraw.Goals as goal

pub returns-then-not-branch-clause-step : goal.returns-then-not-branch-clause-step
returns-then-not-branch-clause-step g c = λ moment priorities.
    let s : State = state_with moment priorities c.args.books.now in
    let left = c.in_ok-withdraw.ensures in
    ap (λ (name : List ℕ). withdraw s name) (sym c.bytes.ensures)
    ∙ withdraw-unknown s c.bytes.result.now (ads_of c.withdraw.new.self.ads) (queue_of c.withdraw.new.self) (sym left.held ∙ c.if-not-branch.true) left.ads
    (left.none c.if-not-branch.true)

pub returns-clause-step : goal.returns-clause-step
returns-clause-step g c = λ moment priorities.
    let s : State = state_with moment priorities c.args.books.now in
    let left = c.in_ok-withdraw.ensures in
    ap (λ (name : List ℕ). withdraw s name) (sym c.bytes.ensures)
    ∙ withdraw-held s c.bytes.result.now c.in_ok-copy.field-0 (ads_of c.withdraw.new.self.ads) (queue_of c.withdraw.new.self)
    (sym left.held ∙ c.if-not-branch.false) left.ads (left.jobs c.if-not-branch.false) (c.in_ok-copy.ensures.text ∙ sym c.bytes.ensures)
