use Rattle.std.proofs.Common.{◌≡◌, length, Some, sym, ◌∙◌, ap}
use Rattle.ad_parser.specs.Outcomes.{ad_outcome}
use Rattle.ad_parser.proofs.Outcomes.{ad_outcome-has}
use Rattle.ad_store.specs.Answers.{is_added}
use Rattle.pool_replies.specs.declared.reply.Reply.{Reply}
use Rattle.ad_store.specs.declared.answers.PutFault.TheVariants as fault
use Rattle.pool_books.specs.Books.{queue_of, state_with}
use Rattle.pool_books.specs.Indexed.{ads_of}
use Rattle.pool_books.specs.State.{State}
use Rattle.pool_books.proofs.HitLemmas.{if_ok}
use Rattle.pool_commands.proofs.StepLemmas.{advertise-added, advertise-faulty, advertise-full, advertise-replaced}
use Rattle.pool_commands.proofs.ads.advertise.Goals as goal

pub returns-in-Err-clause-step : goal.returns-in-Err-clause-step
returns-in-Err-clause-step g c =
    if_ok c.faulty.result _ _ (λ reply told. λ priorities.
    let s : State = state_with c.args.moment priorities c.args.books.now in
    let block = c.args.advertisement.block.now in
    advertise-faulty s c.args.advertisement.name.now c.args.advertisement.lifetime (length block) (ad_outcome block) c.in-Err.fault
    (c.in-Err.ensures.outcome (ad_outcome block) (ad_outcome-has block)) told.1
    ∙ ap (λ (r : Reply). let p : State × Reply = (s, r) in p) (sym told.0))
    c.faulty.ensures.reply

pub returns-in-Ok-Added-clause-step : goal.returns-in-Ok-Added-clause-step
returns-in-Ok-Added-clause-step g c = λ priorities.
    let block = c.args.advertisement.block.now in
    let put = c.in-Ok-Added.ensures in
    advertise-added (state_with c.args.moment priorities c.args.books.now) c.args.advertisement.name.now c.bytes.result.now c.args.advertisement.lifetime
    (length block) (ad_outcome block)
    c.in-Ok.ad (ads_of c.put.new.self.ads) (queue_of c.put.new.self) (c.in-Ok.ensures.outcome (ad_outcome block) (ad_outcome-has block)) c.bytes.ensures
    put.jobs c.in_ok-named.named c.in_ok-named.ensures.text put.room put.ads (sym (ap is_added c.in-Ok-Added.field-0-is) ∙ put.added)

pub returns-in-Ok-Replaced-clause-step : goal.returns-in-Ok-Replaced-clause-step
returns-in-Ok-Replaced-clause-step g c = λ priorities.
    let block = c.args.advertisement.block.now in
    let put = c.in-Ok-Replaced.ensures in
    advertise-replaced (state_with c.args.moment priorities c.args.books.now) c.args.advertisement.name.now c.bytes.result.now c.args.advertisement.lifetime
    (length block)
    (ad_outcome block) c.in-Ok.ad (ads_of c.put.new.self.ads) (queue_of c.put.new.self) (c.in-Ok.ensures.outcome (ad_outcome block) (ad_outcome-has block))
    c.bytes.ensures put.jobs c.in_ok-named.named c.in_ok-named.ensures.text put.room put.ads (sym (ap is_added c.in-Ok-Replaced.field-0-is) ∙ put.added)

pub returns-in-Err-Full-clause-step : goal.returns-in-Err-Full-clause-step
returns-in-Err-Full-clause-step g c = λ priorities.
    let block = c.args.advertisement.block.now in
    let cause = c.in-Err-Full.ensures.cause (λ same. let no : fault.Full ≡ fault.OutOfMemory = sym c.in-Err-Full.field-0-is ∙ same in absurd (cc)) in
    advertise-full (state_with c.args.moment priorities c.args.books.now) c.args.advertisement.name.now c.bytes.result.now c.args.advertisement.lifetime
    (length block) (ad_outcome block)
    c.in-Ok.ad (ads_of c.put.new.self.ads) (queue_of c.put.new.self) (c.in-Ok.ensures.outcome (ad_outcome block) (ad_outcome-has block)) c.bytes.ensures
    cause.2 fault.Full (cause.0 ∙ ap Some c.in-Err-Full.field-0-is) cause.1

pub returns-in-Err-FullText-clause-step : goal.returns-in-Err-FullText-clause-step
returns-in-Err-FullText-clause-step g c = λ priorities.
    let block = c.args.advertisement.block.now in
    let cause =
    c.in-Err-FullText.ensures.cause (λ same. let no : fault.FullText ≡ fault.OutOfMemory = sym c.in-Err-FullText.field-0-is ∙ same in absurd (cc)) in
    advertise-full (state_with c.args.moment priorities c.args.books.now) c.args.advertisement.name.now c.bytes.result.now c.args.advertisement.lifetime
    (length block) (ad_outcome block)
    c.in-Ok.ad (ads_of c.put.new.self.ads) (queue_of c.put.new.self) (c.in-Ok.ensures.outcome (ad_outcome block) (ad_outcome-has block)) c.bytes.ensures
    cause.2 fault.FullText (cause.0 ∙ ap Some c.in-Err-FullText.field-0-is) cause.1
