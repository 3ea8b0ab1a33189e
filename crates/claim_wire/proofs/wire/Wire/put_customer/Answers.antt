use Rattle.std.proofs.Common.{◌-◌, List, ◌++◌, length, set, Some, refl, sym, ◌∙◌, ap, subst}
use Rattle.claim_wire.specs.declared.message.Answers.{Answers}
use Rattle.claim_wire.specs.declared.message.Message.{Message}
use Rattle.claim_wire.specs.Facts.{Facts}
use Rattle.claim_wire.specs.Replies.{sent_text}
use Rattle.claim_wire.specs.Wires as spec
use Rattle.claim_wire.specs.Wires.{WireState, answers_of, listed}
use Rattle.claim_wire.proofs.StepLemmas.{put-at, only-answers, told-more}
use Rattle.claim_wire.proofs.wire.Wire.put_customer.Goals as goal

pub invariant_of-self : goal.invariant_of-self
invariant_of-self c =
    let i = c.self.inside in
    subst (λ (ms : List Message). Facts (record { customers = i.customers.items; resources = i.resources.items; sent = ms }))
    (sym c.in_err-text.ensures.unchanged) c.self.invariant

pub invariant_of-self-2 : goal.invariant_of-self-2
invariant_of-self-2 c =
    let i = c.self.inside in
    let n = c.args.number in
    let moved = c.args.moved in
    let out = c.args.message in
    let v : WireState = record { customers = i.customers.items; resources = i.resources.items; sent = i.sent.items } in
    let w = c.args.self.now in
    let sends = c.in_ok-text.ensures.noted ∙ ap (λ (a : Answers). v.sent ++ answers_of a) c.only-answers.ensures in
    let whole =
    ap (λ (ms : List Message). record { customers = set v.customers (n - 1) moved; resources = v.resources; sent = ms }) sends
    ∙ put-at v n moved out c.requires.number.0
    ∙ ap (λ (u : WireState). spec.moved n (Some (moved, out)) u) c.self.view_is in
    subst Facts (sym whole) c.requires.kept

pub returns-clause-new : goal.returns-clause-new
returns-clause-new c =
    let i = c.self.inside in
    let n = c.args.number in
    let moved = c.args.moved in
    let out = c.args.message in
    let v : WireState = record { customers = i.customers.items; resources = i.resources.items; sent = i.sent.items } in
    let w = c.args.self.now in
    let sends = c.in_ok-text.ensures.noted ∙ ap (λ (a : Answers). v.sent ++ answers_of a) c.only-answers.ensures in
    let whole =
    ap (λ (ms : List Message). record { customers = set v.customers (n - 1) moved; resources = v.resources; sent = ms }) sends
    ∙ put-at v n moved out c.requires.number.0
    ∙ ap (λ (u : WireState). spec.moved n (Some (moved, out)) u) c.self.view_is in
    whole

pub returns-clause-reply : goal.returns-clause-reply
returns-clause-reply c =
    let i = c.self.inside in
    let n = c.args.number in
    let moved = c.args.moved in
    let out = c.args.message in
    let v : WireState = record { customers = i.customers.items; resources = i.resources.items; sent = i.sent.items } in
    let w = c.args.self.now in
    let sends = c.in_ok-text.ensures.noted ∙ ap (λ (a : Answers). v.sent ++ answers_of a) c.only-answers.ensures in
    let whole =
    ap (λ (ms : List Message). record { customers = set v.customers (n - 1) moved; resources = v.resources; sent = ms }) sends
    ∙ put-at v n moved out c.requires.number.0
    ∙ ap (λ (u : WireState). spec.moved n (Some (moved, out)) u) c.self.view_is in
    c.in_ok-text.ensures.told
    ∙ ap (λ (a : Answers). sent_text (length v.sent) (answers_of a)) c.only-answers.ensures
    ∙ ap (sent_text (length v.sent)) (only-answers out)
    ∙ ap (λ (u : WireState). sent_text (length u.sent) (listed out)) c.self.view_is
    ∙ sym (told-more w (spec.moved n (Some (moved, out)) w) (listed out) refl)
