use Rattle.std.proofs.Common.{◌≤◌, ◌+◌, ◌*◌, ℕ, List, Contains, Result, sym, ◌∙◌, ap, subst}
use Rattle.ad_store.specs.Store.{stock_of}
use Rattle.claim_table.specs.declared.answers.ClaimFault.{ClaimFault}
use Rattle.claim_table.specs.declared.answers.Freed.{Freed}
use Rattle.claim_table.specs.Settings.{settings_of}
use Rattle.pool_books.specs.Books.{state_with}
use Rattle.pool_books.specs.ClaimAnswers.{IsClaimAnswer, names_given}
use Rattle.pool_books.specs.Claiming.{claim, offered_for_claim, undecided_for_claim}
use Rattle.pool_books.specs.State.{State}
use Rattle.pool_books.specs.declared.indexed.IndexedStore.{IndexedStore}
use Rattle.pool_books.proofs.HitLemmas.{if_ok}
use Rattle.pool_commands.proofs.claiming.claim.Goals as goal

pub claim_reply-requires-clause-held : goal.claim_reply-requires-clause-held
claim_reply-requires-clause-held g c = λ slot is.
    let s : State = state_with c.args.moment (settings_of c.args.priorities.now) c.args.books.now in
    let t : State = state_with c.args.moment (settings_of c.args.priorities.now) c.claim-answer.new.self in
    let told =
    subst (λ (answer : Result (List Freed) ClaimFault). IsClaimAnswer (stock_of c.args.books.now.ads.store) s c.bytes-2.result.now t answer) is
    c.claim-answer.ensures.claim in
    subst (λ (ads : IndexedStore). Contains (stock_of ads.store).slots slot) (sym c.claim-answer.ensures.ads) told.0

pub claim_reply-requires-clause-wrong : goal.claim_reply-requires-clause-wrong
claim_reply-requires-clause-wrong g c = λ state is.
    let s : State = state_with c.args.moment (settings_of c.args.priorities.now) c.args.books.now in
    let t : State = state_with c.args.moment (settings_of c.args.priorities.now) c.claim-answer.new.self in
    (subst (λ (answer : Result (List Freed) ClaimFault). IsClaimAnswer (stock_of c.args.books.now.ads.store) s c.bytes-2.result.now t answer) is
    c.claim-answer.ensures.claim).0

pub returns-clause-step : goal.returns-clause-step
returns-clause-step g c =
    if_ok c.claim_reply.result _ _
    (λ reply is.
    let s : State = state_with c.args.moment (settings_of c.args.priorities.now) c.args.books.now in
    let t : State = state_with c.args.moment (settings_of c.args.priorities.now) c.claim-answer.new.self in
    let called = c.bytes-2.ensures ∙ sym c.in_ok-named.ensures.text in
    let fits = subst (λ (n : List ℕ). IsClaimAnswer (stock_of c.args.books.now.ads.store) s n t c.claim-answer.result) called c.claim-answer.ensures.claim in
    let there =
    subst (λ (ads : IndexedStore). IsClaimAnswer (stock_of ads.store) s c.in_ok-named.named t c.claim-answer.result) (sym c.claim-answer.ensures.ads)
    fits in
    let given = c.in_ok-names.ensures ∙ ap (λ (n : List ℕ). names_given n s.jobs) (c.bytes.ensures ∙ sym c.in_ok-named.ensures.text) in
    ap (λ (n : List ℕ). claim s n) (sym c.in_ok-named.ensures.text) ∙ is s t there given)
    c.claim_reply.ensures.step

pub returns-clause-cost : goal.returns-clause-cost
returns-clause-cost g c =
    λ priorities. subst (λ (n : List ℕ). c.claim-answer.new.meter.tops.now
    ≤ c.args.meter.now.tops.now + 4 * undecided_for_claim (state_with c.args.moment priorities c.args.books.now) n) c.bytes-2.ensures
    (c.claim-answer.ensures.cost priorities)

pub returns-clause-looks : goal.returns-clause-looks
returns-clause-looks g c =
    λ priorities. subst (λ (n : List ℕ). c.claim-answer.new.meter.touch.now
    ≤ c.args.meter.now.touch.now + 9 * offered_for_claim (state_with c.args.moment priorities c.args.books.now) n) c.bytes-2.ensures
    (c.claim-answer.ensures.looks priorities)
