use Rattle.std.proofs.Common.{◌≡◌, ◌<◌, ◌∙◌, All, List, None, Some, ap, length, slice_get, subst, sym}
use Rattle.std.specs.Prelude.{option_map}
use Rattle.claim_table.specs.declared.answers.JobState.{JobState}
use Rattle.claim_table.specs.declared.job.Job.{Job}
use Rattle.claim_table.specs.declared.job.Stage.{Stage}
use Rattle.claim_table.specs.Claims as claims
use Rattle.claim_table.specs.Jobs.{claimed_by, state_of, with_standing}
use Rattle.claim_table.specs.JobList.{slots_in}
use Rattle.claim_table.specs.Kept.{numbers}
use Rattle.claim_table.specs.Table.{jobs_of}
use Rattle.claim_table.proofs.ClaimLemmas.{offer-found}
use Rattle.claim_table.proofs.ListLemmas.{within_at}
use Rattle.claim_table.proofs.LoserLemmas.{losers-within, offer-left, same-offer, still-matched}
use Rattle.claim_table.proofs.table.ClaimTable.grant.Goals as goal

pub tell_all-requires : goal.tell_all-requires
tell_all-requires c =
    let t = c.args.self.now in
    subst (All (λ k. k < length (jobs_of t))) (sym (c.as_slice.ensures ∙ c.in_ok-losers.ensures))
    (losers-within (numbers (slots_in t.jobs) t.claims.items) (jobs_of t) t.kept.claimed c.offer.result.now)

pub make_all_idle-requires : goal.make_all_idle-requires
make_all_idle-requires c =
    let t = c.args.self.now in
    subst (All (λ k. k < length (jobs_of t))) (sym (c.as_slice-2.ensures ∙ c.in_ok-losers.ensures))
    (losers-within (numbers (slots_in t.jobs) t.claims.items) (jobs_of t) t.kept.claimed c.offer.result.now)

pub settle-requires-clause-matched : goal.settle-requires-clause-matched
settle-requires-clause-matched c =
    let t = c.args.self.now in
    let i = c.args.i in
    let jobs = jobs_of t in
    let at : slice_get jobs i ≡ Some c.at.result.now = c.at.ensures in
    let losers = c.in_ok-losers.ensures ∙ ap (claims.losers jobs) (c.offer.ensures ∙ sym (offer-found jobs i c.at.result.now at)) in
    let idle = c.make_all_idle.ensures ∙ ap (claims.all_idle jobs) (c.as_slice-2.ensures ∙ losers) in
    ap (λ (js : List Job). option_map (λ (j : Job). state_of j.standing) (slice_get js i)) idle
    ∙ still-matched (numbers (slots_in t.jobs) t.claims.items) jobs t.kept.claimed i c.requires

pub settle-requires-clause-free : goal.settle-requires-clause-free
settle-requires-clause-free c =
    let t = c.args.self.now in
    let i = c.args.i in
    let jobs = jobs_of t in
    let at : slice_get jobs i ≡ Some c.at.result.now = c.at.ensures in
    let losers = c.in_ok-losers.ensures ∙ ap (claims.losers jobs) (c.offer.ensures ∙ sym (offer-found jobs i c.at.result.now at)) in
    let idle = c.make_all_idle.ensures ∙ ap (claims.all_idle jobs) (c.as_slice-2.ensures ∙ losers) in
    subst (λ (js : List Job). All (λ slot. claimed_by slot js ≡ None) (claims.offer_at i js)) (sym idle)
    (offer-left (numbers (slots_in t.jobs) t.claims.items) jobs t.kept.claimed i c.requires)

pub returns-clause-freed : goal.returns-clause-freed
returns-clause-freed c =
    let i = c.args.i in
    let jobs = jobs_of c.args.self.now in
    let at : slice_get jobs i ≡ Some c.at.result.now = c.at.ensures in
    let losers = c.in_ok-losers.ensures ∙ ap (claims.losers jobs) (c.offer.ensures ∙ sym (offer-found jobs i c.at.result.now at)) in
    c.in_ok-freed.ensures ∙ ap (claims.freed_all jobs) (c.as_slice.ensures ∙ losers)

pub returns-clause-ok : goal.returns-clause-ok
returns-clause-ok c =
    let t = c.args.self.now in
    let i = c.args.i in
    let jobs = jobs_of t in
    let at : slice_get jobs i ≡ Some c.at.result.now = c.at.ensures in
    let losers = c.in_ok-losers.ensures ∙ ap (claims.losers jobs) (c.offer.ensures ∙ sym (offer-found jobs i c.at.result.now at)) in
    let idle = c.make_all_idle.ensures ∙ ap (claims.all_idle jobs) (c.as_slice-2.ensures ∙ losers) in
    let rest = claims.all_idle jobs (claims.losers jobs (claims.offer_at i jobs)) in
    c.settle.ensures ∙ ap (λ (js : List Job). with_standing js i (Stage.Claimed (claims.offer_at i js))) idle
    ∙ ap (λ slots. with_standing rest i (Stage.Claimed slots)) (same-offer (numbers (slots_in t.jobs) t.claims.items) jobs t.kept.claimed i c.requires)

pub at-requires : goal.at-requires
at-requires c = within_at (λ j. state_of j.standing) (jobs_of c.args.self.now) c.args.i JobState.Matched c.requires
