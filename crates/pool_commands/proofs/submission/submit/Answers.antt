use Rattle.std.proofs.Common.{◌≡◌, ℕ, List, IfSome, Option, length, is_none, refl, sym, ◌∙◌, ap, subst}
use Rattle.ad_tree.specs.Ad.{ad_frames}
use Rattle.ad_tree.specs.Frames.{Frame}
use Rattle.ad_tree.specs.Small.{IsSmall}
use Rattle.ad_tree.specs.declared.request.Request.{Request}
use Rattle.ad_parser.specs.Outcomes.{ad_outcome}
use Rattle.ad_parser.proofs.Outcomes.{ad_outcome-has}
use Rattle.pool_replies.specs.declared.reply.Reply.{Reply}
use Rattle.pool_books.specs.Books.{queue_of, state_with}
use Rattle.pool_books.specs.Indexed.{ads_of}
use Rattle.pool_books.specs.Ports.{HasOwnPorts}
use Rattle.pool_books.specs.Queue.{job_refusal}
use Rattle.pool_books.specs.State.{State}
use Rattle.pool_books.proofs.HitLemmas.{if_ok}
use Rattle.pool_commands.proofs.SubmitLemmas.{submit-bad, submit-faulty, submit-refused, submit-taken}
use Rattle.pool_commands.proofs.submission.submit.Goals as goal

pub returns-in-Err-clause-step : goal.returns-in-Err-clause-step
returns-in-Err-clause-step c =
    if_ok c.faulty.result _ _ (λ reply told. λ moment priorities.
    let s : State = state_with moment priorities c.args.books.now in
    let block = c.args.block.now in
    submit-faulty s c.args.job.now c.args.user.now (length block) (ad_outcome block) c.in-Err.fault
    (c.in-Err.ensures.outcome (ad_outcome block) (ad_outcome-has block)) told.1
    ∙ ap (λ (r : Reply). let p : State × Reply = (s, r) in p) (sym told.0))
    c.faulty.ensures.reply

pub returns-in-Some-clause-step : goal.returns-in-Some-clause-step
returns-in-Some-clause-step c = λ moment priorities.
    let s : State = state_with moment priorities c.args.books.now in
    let block = c.args.block.now in
    submit-refused s c.args.job.now c.args.user.now c.bytes.result.now c.args.user.now (length block) (ad_outcome block) c.in-Ok.ad
    (c.in-Ok.ensures.outcome (ad_outcome block) (ad_outcome-has block)) c.bytes.ensures refl c.in-Some.reason (sym c.in-Some.ensures.reason)

pub returns-in_default-2-clause-step : goal.returns-in_default-2-clause-step
returns-in_default-2-clause-step c = λ moment priorities.
    let s : State = state_with moment priorities c.args.books.now in
    let block = c.args.block.now in
    submit-bad s c.args.job.now c.args.user.now c.bytes.result.now c.args.user.now (length block) (ad_outcome block) c.in-Ok.ad
    (c.in-Ok.ensures.outcome (ad_outcome block) (ad_outcome-has block)) c.bytes.ensures refl (sym c.in_default.ensures.reason)
    (sym c.in_ok-request.ensures.good ∙ ap is_none c.in_default-2.is)

-- the request is that of the ad
abbrev HasRequest : List Frame → Option Request → Type 0
HasRequest frames request = IfSome request (λ r. (ad_frames r.ad ≡ frames) × HasOwnPorts r)

pub submit-requires-clause-room : goal.submit-requires-clause-room
submit-requires-clause-room c =
    ap (λ (name : List ℕ). job_refusal name (length c.args.block.now) (queue_of c.args.books.now)) (c.bytes-2.ensures ∙ sym c.bytes.ensures)
    ∙ sym c.in_default.ensures.reason

pub submit-requires-clause-own : goal.submit-requires-clause-own
submit-requires-clause-own c = (subst (λ (r : Option Request). HasRequest (ad_frames c.in-Ok.ad) r) c.in-Some-2.is c.in_ok-request.ensures.own).1

pub submit-requires-clause-small : goal.submit-requires-clause-small
submit-requires-clause-small c =
    let request = subst (λ (r : Option Request). HasRequest (ad_frames c.in-Ok.ad) r) c.in-Some-2.is c.in_ok-request.ensures.own in
    subst IsSmall (sym request.0) c.in-Ok.ensures.small

pub returns-clause-step : goal.returns-clause-step
returns-clause-step c = λ moment priorities.
    let s : State = state_with moment priorities c.args.books.now in
    let block = c.args.block.now in
    let room =
    ap (λ (name : List ℕ). job_refusal name (length block) (queue_of c.args.books.now)) (c.bytes-2.ensures ∙ sym c.bytes.ensures)
    ∙ sym c.in_default.ensures.reason in
    let good = sym c.in_ok-request.ensures.good ∙ ap is_none c.in-Some-2.is in
    let request = subst (λ (r : Option Request). HasRequest (ad_frames c.in-Ok.ad) r) c.in-Some-2.is c.in_ok-request.ensures.own in
    submit-taken s c.args.job.now c.args.user.now c.bytes-2.result.now c.bytes-3.result.now (length block) (ad_outcome block) c.in-Ok.ad
    (c.in-Ok.ensures.outcome (ad_outcome block) (ad_outcome-has block)) c.bytes-2.ensures c.bytes-3.ensures c.in_ok-copy.field-0
    (ad_frames c.in-Some-2.request.ad) (ads_of c.submit.new.self.ads) (queue_of c.submit.new.self) c.in_ok-copy.ensures.text room good request.0
    (ap ads_of c.submit.ensures.ads) c.in_ok-submit.ensures.jobs
