use Rattle.std.proofs.Common.{◌-◌, ◌<◌, [], length, sym, ◌∙◌, ap, subst, arith}
use Rattle.std.proofs.lemmas.List.{append-nil}
use Rattle.claim_wire.specs.declared.event.Event.TheVariants as events
use Rattle.claim_wire.specs.Facts.{Facts}
use Rattle.claim_wire.specs.Resources.{restart, silent}
use Rattle.claim_wire.specs.Wires as spec
use Rattle.claim_wire.specs.Wires.{WireState}
use Rattle.claim_wire.proofs.StepLemmas.{changed-quietly, read-at, told-more}
use Rattle.claim_wire.proofs.WireLemmas.{happens-facts}
use Rattle.claim_wire.proofs.wire.Wire.restart_resource.Goals as goal

pub invariant_of-self : goal.invariant_of-self
invariant_of-self c =
    let i = c.self.inside in
    let n = c.args.resource in
    let v : WireState = record { customers = i.customers.items; resources = i.resources.items; sent = i.sent.items } in
    let w = c.args.self.now in
    let ends = ap (λ (u : WireState). length u.resources) c.self.view_is in
    let less : n - 1 < length v.resources = omega (arith, c.requires.0, c.requires.1, ends) in
    let here = read-at v.resources (n - 1) c.index_mut.result.now less c.index_mut.ensures.value in
    let changes = changed-quietly v n restart c.index_mut.result.now c.restart.new.self c.requires.0 here c.restart.ensures in
    subst Facts (sym changes) (happens-facts (events.RestartResource n) v c.self.invariant)

pub returns-clause-new : goal.returns-clause-new
returns-clause-new c =
    let i = c.self.inside in
    let n = c.args.resource in
    let v : WireState = record { customers = i.customers.items; resources = i.resources.items; sent = i.sent.items } in
    let w = c.args.self.now in
    let ends = ap (λ (u : WireState). length u.resources) c.self.view_is in
    let less : n - 1 < length v.resources = omega (arith, c.requires.0, c.requires.1, ends) in
    let here = read-at v.resources (n - 1) c.index_mut.result.now less c.index_mut.ensures.value in
    let changes = changed-quietly v n restart c.index_mut.result.now c.restart.new.self c.requires.0 here c.restart.ensures in
    changes ∙ ap (λ (u : WireState). spec.with_resource n (λ r. (restart r, silent)) u) c.self.view_is

pub returns-clause-reply : goal.returns-clause-reply
returns-clause-reply c =
    let i = c.self.inside in
    let n = c.args.resource in
    let v : WireState = record { customers = i.customers.items; resources = i.resources.items; sent = i.sent.items } in
    let w = c.args.self.now in
    let ends = ap (λ (u : WireState). length u.resources) c.self.view_is in
    let less : n - 1 < length v.resources = omega (arith, c.requires.0, c.requires.1, ends) in
    let here = read-at v.resources (n - 1) c.index_mut.result.now less c.index_mut.ensures.value in
    let changes = changed-quietly v n restart c.index_mut.result.now c.restart.new.self c.requires.0 here c.restart.ensures in
    let whole = changes ∙ ap (λ (u : WireState). spec.with_resource n (λ r. (restart r, silent)) u) c.self.view_is in
    let sends = ap (λ (u : WireState). u.sent) (sym whole) ∙ ap (λ (u : WireState). u.sent) c.self.view_is ∙ sym (append-nil w.sent) in
    c.in_ok-text.ensures ∙ sym (told-more w (spec.with_resource n (λ r. (restart r, silent)) w) [] sends)
