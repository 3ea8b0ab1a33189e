use Rattle.std.proofs.Common.{◌-◌, ◌<◌, ◌++◌, length, refl, sym, ◌∙◌, ap, subst, arith}
use Rattle.claim_wire.specs.Facts.{Facts}
use Rattle.claim_wire.specs.Replies.{told, sent_text}
use Rattle.claim_wire.specs.Resources.{take}
use Rattle.claim_wire.specs.Wires as spec
use Rattle.claim_wire.specs.Wires.{WireState, answers_of}
use Rattle.std.specs.List.{Contains}
use Rattle.claim_wire.proofs.StepLemmas.{answered, at-none, brought, is_true, no-resource, read-at, text-as, told-more, told-nothing, untrue}
use Rattle.claim_wire.proofs.WireLemmas.{requested-facts}
use Rattle.claim_wire.proofs.wire.Wire.to_resource.Goals as goal

pub returns-then-not-known-clause-reply : goal.returns-then-not-known-clause-reply
returns-then-not-known-clause-reply c =
    let w = c.args.self.now in
    let m = c.args.m.now in
    let none = at-none w.resources m.resource (λ named. untrue (c.if-not-known.ensures.1 named)) in
    let e = no-resource w m.resource (take m) none in
    text-as c.quiet.result (sym (told-nothing w) ∙ ap (told w) (sym e)) c.quiet.ensures

pub answers-answers-requires : goal.answers-answers-requires
answers-answers-requires c =
    let i = c.self.inside in
    let m = c.args.m.now in
    let v : WireState = record { customers = i.customers.items; resources = i.resources.items; sent = i.sent.items } in
    let w = c.args.self.now in
    let number = c.if-not-known.ensures.0 is_true in
    let ends = ap (λ (u : WireState). length u.resources) c.self.view_is in
    let less : m.resource - 1 < length v.resources = omega (arith, number.0, number.1, ends) in
    let here = read-at v.resources (m.resource - 1) c.index.result.now less c.index.ensures in
    record { customer = answered v w m c.index.result.now c.self.view_is c.self.invariant c.requires.sent c.requires.request number.0 here }

pub change-requires : goal.change-requires
change-requires c =
    let i = c.self.inside in
    let m = c.args.m.now in
    let v : WireState = record { customers = i.customers.items; resources = i.resources.items; sent = i.sent.items } in
    let w = c.args.self.now in
    let number = c.if-not-known.ensures.0 is_true in
    let ends = ap (λ (u : WireState). length u.resources) c.self.view_is in
    let less : m.resource - 1 < length v.resources = omega (arith, number.0, number.1, ends) in
    let here = read-at v.resources (m.resource - 1) c.index.result.now less c.index.ensures in
    let there = read-at v.resources (m.resource - 1) c.index_mut.result.now less c.index_mut.ensures.value in
    record { customer = answered v w m c.index_mut.result.now c.self.view_is c.self.invariant c.requires.sent c.requires.request number.0 there }

pub invariant_of-self-2 : goal.invariant_of-self-2
invariant_of-self-2 c =
    let i = c.self.inside in
    let m = c.args.m.now in
    let v : WireState = record { customers = i.customers.items; resources = i.resources.items; sent = i.sent.items } in
    let w = c.args.self.now in
    let number = c.if-not-known.ensures.0 is_true in
    let ends = ap (λ (u : WireState). length u.resources) c.self.view_is in
    let less : m.resource - 1 < length v.resources = omega (arith, number.0, number.1, ends) in
    let here = read-at v.resources (m.resource - 1) c.index.result.now less c.index.ensures in
    let there = read-at v.resources (m.resource - 1) c.index_mut.result.now less c.index_mut.ensures.value in
    let whole =
    brought v v m c.index.result.now c.index_mut.result.now c.change.new.self c.answers-answers.result c.note.new.sent.items refl number.0 here there
    c.answers-answers.ensures c.change.ensures c.in_ok-text.ensures.noted in
    let has = subst (λ (u : WireState). Contains u.sent m) (sym c.self.view_is) c.requires.sent in
    subst Facts (sym whole) (requested-facts v m c.self.invariant has c.requires.request)

pub returns-clause-new : goal.returns-clause-new
returns-clause-new c =
    let i = c.self.inside in
    let m = c.args.m.now in
    let v : WireState = record { customers = i.customers.items; resources = i.resources.items; sent = i.sent.items } in
    let w = c.args.self.now in
    let number = c.if-not-known.ensures.0 is_true in
    let ends = ap (λ (u : WireState). length u.resources) c.self.view_is in
    let less : m.resource - 1 < length v.resources = omega (arith, number.0, number.1, ends) in
    let here = read-at v.resources (m.resource - 1) c.index.result.now less c.index.ensures in
    let there = read-at v.resources (m.resource - 1) c.index_mut.result.now less c.index_mut.ensures.value in
    let whole =
    brought v w m c.index.result.now c.index_mut.result.now c.change.new.self c.answers-answers.result c.note.new.sent.items c.self.view_is number.0 here
    there c.answers-answers.ensures c.change.ensures c.in_ok-text.ensures.noted in
    whole

pub returns-clause-reply : goal.returns-clause-reply
returns-clause-reply c =
    let i = c.self.inside in
    let m = c.args.m.now in
    let v : WireState = record { customers = i.customers.items; resources = i.resources.items; sent = i.sent.items } in
    let w = c.args.self.now in
    let number = c.if-not-known.ensures.0 is_true in
    let ends = ap (λ (u : WireState). length u.resources) c.self.view_is in
    let less : m.resource - 1 < length v.resources = omega (arith, number.0, number.1, ends) in
    let here = read-at v.resources (m.resource - 1) c.index.result.now less c.index.ensures in
    let there = read-at v.resources (m.resource - 1) c.index_mut.result.now less c.index_mut.ensures.value in
    let whole =
    brought v w m c.index.result.now c.index_mut.result.now c.change.new.self c.answers-answers.result c.note.new.sent.items c.self.view_is number.0 here
    there c.answers-answers.ensures c.change.ensures c.in_ok-text.ensures.noted in
    let sends =
    ap (λ (u : WireState). u.sent) (sym whole) ∙ c.in_ok-text.ensures.noted
    ∙ ap (λ (u : WireState). u.sent ++ answers_of c.answers-answers.result) c.self.view_is in
    c.in_ok-text.ensures.told
    ∙ ap (λ (u : WireState). sent_text (length u.sent) (answers_of c.answers-answers.result)) c.self.view_is
    ∙ sym (told-more w (spec.with_resource m.resource (take m) w) (answers_of c.answers-answers.result) sends)
