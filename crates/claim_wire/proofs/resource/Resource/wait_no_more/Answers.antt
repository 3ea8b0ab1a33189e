use Rattle.std.proofs.Common.{◌≡◌, eqb, leb, ◌&&◌, true, length, sym, subst, ap, ◌∙◌, arith}
use Rattle.std.specs.List.{position}
use Rattle.claim_wire.specs.declared.message.Holder.{Holder}
use Rattle.claim_wire.specs.Resources.{ResourceState, are_waiting, freed_of, without}
use Rattle.claim_wire.proofs.WaitingLemmas.{position-first, position-none, without-first, without-none, without-waiting}
use Rattle.claim_wire.proofs.resource.Resource.wait_no_more.Goals as goal

pub invariant_of-self : goal.invariant_of-self
invariant_of-self c =
    let ws = c.self.inside.waiting.items in
    let n = length c.self.inside.freed.items in
    let freed = c.self.inside.freed.items in
    let first =
    position-first (λ w. eqb w.customer c.args.customer && leb w.number c.args.freed) ws c.in-Some.i
    (c.in-Some.ensures ∙ ap (position (λ (w : Holder). eqb w.customer c.args.customer && leb w.number c.args.freed)) c.deref.ensures.value) in
    let same =
    without-first freed c.args.customer c.args.freed ws c.in-Some.i
    (c.requires.1 ∙ ap (λ (v : ResourceState). freed_of v c.args.customer) (sym c.self.view_is)) first in (
      subst (λ l. are_waiting n l ≡ true) (sym (c.remove-claim.ensures.by_index.2 ∙ same)) (without-waiting n freed c.args.customer ws c.self.invariant.0),
      omega (arith, c.remove-claim.ensures.capacity, c.self.invariant.1),
    )

pub returns-in-Some : goal.returns-in-Some
returns-in-Some c =
    let ws = c.self.inside.waiting.items in
    let freed = c.self.inside.freed.items in
    let first =
    position-first (λ w. eqb w.customer c.args.customer && leb w.number c.args.freed) ws c.in-Some.i
    (c.in-Some.ensures ∙ ap (position (λ (w : Holder). eqb w.customer c.args.customer && leb w.number c.args.freed)) c.deref.ensures.value) in
    let same =
    without-first freed c.args.customer c.args.freed ws c.in-Some.i
    (c.requires.1 ∙ ap (λ (v : ResourceState). freed_of v c.args.customer) (sym c.self.view_is)) first in
    ap (λ l. record { id = c.self.inside.id; holder = c.self.inside.holder; freed = c.self.inside.freed.items; waiting = l })
    (c.remove-claim.ensures.by_index.2 ∙ same)
    ∙ ap (λ (v : ResourceState). record { id = v.id; holder = v.holder; freed = v.freed; waiting = without v.freed c.args.customer v.waiting })
    c.self.view_is

pub returns-in_default : goal.returns-in_default
returns-in_default c =
    let ws = c.self.inside.waiting.items in
    let freed = c.self.inside.freed.items in
    let none =
    position-none (λ w. eqb w.customer c.args.customer && leb w.number c.args.freed) ws
    (c.in_default.ensures ∙ ap (position (λ (w : Holder). eqb w.customer c.args.customer && leb w.number c.args.freed)) c.deref.ensures.value) in
    let same =
    without-none freed c.args.customer c.args.freed ws (c.requires.1 ∙ ap (λ (v : ResourceState). freed_of v c.args.customer) (sym c.self.view_is))
    none in
    sym c.self.view_is ∙ ap (λ l. record { id = c.self.inside.id; holder = c.self.inside.holder; freed = c.self.inside.freed.items; waiting = l }) same
    ∙ ap (λ (v : ResourceState). record { id = v.id; holder = v.holder; freed = v.freed; waiting = without v.freed c.args.customer v.waiting })
    c.self.view_is
