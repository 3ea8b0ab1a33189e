use Rattle.std.proofs.Common.{◌≤◌, ◌+◌, ℕ, List, length, sym, ◌∙◌, ap, subst}
use Rattle.ad_parser.specs.Outcomes.{ad_outcome}
use Rattle.claim_table.specs.Settings.{settings_of}
use Rattle.pool_books.specs.Claiming.{undecided_for_claim}
use Rattle.pool_books.specs.State.{State}
use Rattle.pool_books.proofs.HitLemmas.{if_ok}
use Rattle.pool_commands.specs.Ads.{advertise}
use Rattle.pool_commands.specs.Jobs.{submit}
use Rattle.pool_state.specs.Changes.{is_search}
use Rattle.pool_state.specs.Pool.{state_of}
use Rattle.pool_state.specs.Step.{allowance, looks, step}
use Rattle.pool_state.proofs.CommandLemmas.{allowance-Claim, less-allowed, looks-Claim, step-Advertise, step-Claim, step-Priority, step-Release, step-Remove}
use Rattle.pool_state.proofs.CommandLemmas.{step-Submit, step-Withdraw}
use Rattle.pool_state.proofs.pool.Pool.run.Goals as goal

pub returns-in-Advertise-clause-step : goal.returns-in-Advertise-clause-step
unfolding state_of
returns-in-Advertise-clause-step g c =
    let s : State = state_of c.args.self.now in
    if_ok c.advertise.result _ _ (λ reply is. ap (step s) c.in-Advertise.is ∙ step-Advertise s c.in-Advertise.name c.in-Advertise.lifetime c.in-Advertise.block
    ∙ ap (λ (block : List ℕ). advertise s c.in-Advertise.name c.in-Advertise.lifetime (length block) (ad_outcome block)) (sym c.bytes.ensures)
    ∙ is (settings_of c.args.self.now.priorities)) c.advertise.ensures.step

pub returns-in-Withdraw-clause-step : goal.returns-in-Withdraw-clause-step
unfolding state_of
returns-in-Withdraw-clause-step g c =
    if_ok c.withdraw.result _ _ (λ reply is. ap (step (state_of c.args.self.now)) c.in-Withdraw.is ∙ step-Withdraw (state_of c.args.self.now) c.in-Withdraw.name
    ∙ is c.args.self.now.moment (settings_of c.args.self.now.priorities)) c.withdraw.ensures.step

pub returns-in-Submit-clause-step : goal.returns-in-Submit-clause-step
unfolding state_of
returns-in-Submit-clause-step g c =
    let s : State = state_of c.args.self.now in
    if_ok c.submit.result _ _ (λ reply is. ap (step s) c.in-Submit.is ∙ step-Submit s c.in-Submit.job c.in-Submit.user c.in-Submit.block
    ∙ ap (λ (block : List ℕ). submit s c.in-Submit.job c.in-Submit.user (length block) (ad_outcome block)) (sym c.bytes-in-Submit.ensures)
    ∙ is c.args.self.now.moment (settings_of c.args.self.now.priorities)) c.submit.ensures.step

pub returns-in-Remove-clause-step : goal.returns-in-Remove-clause-step
unfolding state_of
returns-in-Remove-clause-step g c =
    if_ok c.remove.result _ _ (λ reply is. ap (step (state_of c.args.self.now)) c.in-Remove.is ∙ step-Remove (state_of c.args.self.now) c.in-Remove.job
    ∙ is c.args.self.now.moment (settings_of c.args.self.now.priorities)) c.remove.ensures.step

pub returns-in-Priority-clause-step : goal.returns-in-Priority-clause-step
unfolding state_of
returns-in-Priority-clause-step g c =
    if_ok c.set_priority.result _ _ (λ reply is. ap (step (state_of c.args.self.now)) c.in-Priority.is
    ∙ step-Priority (state_of c.args.self.now) c.in-Priority.user c.in-Priority.n ∙ is c.args.self.now.moment c.args.self.now.books)
    c.set_priority.ensures.step

pub returns-in-Claim-clause-step : goal.returns-in-Claim-clause-step
unfolding state_of
returns-in-Claim-clause-step g c =
    if_ok c.claim.result _ _ (λ reply is. ap (step (state_of c.args.self.now)) c.in-Claim.is ∙ step-Claim (state_of c.args.self.now) c.in-Claim.job ∙ is)
    c.claim.ensures.step

pub returns-in-Claim-clause-cost : goal.returns-in-Claim-clause-cost
unfolding state_of
returns-in-Claim-clause-cost g c =
    let s : State = state_of c.args.self.now in
    let allowed = ap (allowance s) c.in-Claim.is ∙ allowance-Claim s c.in-Claim.job in
    less-allowed c.args.meter.now.tops.now c.claim.new.meter.tops.now (undecided_for_claim s c.in-Claim.job) (allowance s c.args.command.now) allowed
    (c.claim.ensures.cost (settings_of c.args.self.now.priorities))

pub returns-in-Claim-clause-looks : goal.returns-in-Claim-clause-looks
unfolding state_of
returns-in-Claim-clause-looks g c =
    let s : State = state_of c.args.self.now in
    subst (λ (n : ℕ). c.claim.new.meter.touch.now ≤ c.args.meter.now.touch.now + n) (sym (ap (looks s) c.in-Claim.is ∙ looks-Claim s c.in-Claim.job))
    (c.claim.ensures.looks (settings_of c.args.self.now.priorities))

pub returns-in-Release-clause-step : goal.returns-in-Release-clause-step
unfolding state_of
returns-in-Release-clause-step g c =
    if_ok c.release.result _ _ (λ reply is. ap (step (state_of c.args.self.now)) c.in-Release.is ∙ step-Release (state_of c.args.self.now) c.in-Release.job
    ∙ is c.args.self.now.moment (settings_of c.args.self.now.priorities)) c.release.ensures.step

-- a command that searches the index finds it settled
pub query-requires-clause-index : goal.query-requires-clause-index
query-requires-clause-index g c = c.requires.index (ap is_search c.in-Query.is)

pub gang-requires-clause-index : goal.gang-requires-clause-index
gang-requires-clause-index g c = c.requires.index (ap is_search c.in-Gang.is)

pub negotiate-requires : goal.negotiate-requires
negotiate-requires g c = c.requires.index (ap is_search c.in-Negotiate.is)
