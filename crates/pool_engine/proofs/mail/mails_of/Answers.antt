use Rattle.std.proofs.Common.{List, ◌++◌, drop, Option, Some, sym, ◌∙◌, ap}
use Rattle.std.proofs.lemmas.List.{take_rest}
use Rattle.pool_engine.specs.Mails.{mails_of, with_mail}
use Rattle.pool_engine.specs.declared.mail.Mail.{Mail}
use Rattle.pool_engine.proofs.PairLemmas.{mails-pushed, mails_of-next}
use Rattle.pool_engine.proofs.mail.mails_of.Goals as goal

pub loop-left-preserved : goal.loop-left-preserved
loop-left-preserved c =
    let left = c.loop-left.left.now in
    let next =
    mails_of-next left c.bytes.result.now _ c.in_ok-mail.field-0 c.in-len2-up.len_at_least (c.bytes.ensures ∙ c.value-item.is) c.in_ok-mail.ensures in
    let none = next ∙ ap (λ (o : Option Mail). with_mail o (mails_of (drop 2 left))) c.in_default-2.is in
    c.loop-left.invariant ∙ ap (λ (ms : List Mail). c.loop-left.mails.items ++ ms) (none ∙ ap mails_of (sym (take_rest left 2)))

pub loop-left-preserved-in_ok-push : goal.loop-left-preserved-in_ok-push
loop-left-preserved-in_ok-push c =
    let left = c.loop-left.left.now in
    let next =
    mails_of-next left c.bytes.result.now _ c.in_ok-mail.field-0 c.in-len2-up.len_at_least (c.bytes.ensures ∙ c.value-item.is) c.in_ok-mail.ensures in
    let some = next ∙ ap (λ (o : Option Mail). with_mail o (mails_of (drop 2 left))) c.in-Some.is in
    let whole =
    c.loop-left.invariant ∙ ap (λ (ms : List Mail). c.loop-left.mails.items ++ ms) (some
    ∙ ap (λ (ms : List Mail). with_mail (Some c.in-Some.mail) ms) (ap mails_of (sym (take_rest left 2)))) in
    mails-pushed _ c.loop-left.mails.items c.push.new.self.items _ c.in-Some.mail whole c.in_ok-push.ensures.items
