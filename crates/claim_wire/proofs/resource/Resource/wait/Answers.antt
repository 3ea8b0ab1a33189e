use Rattle.std.proofs.Common.{◌≡◌, ◌≤◌, eqb, true, length, sym, subst, ap, ◌∙◌, arith}
use Rattle.std.specs.List.{position}
use Rattle.claim_wire.specs.declared.message.Holder.{Holder}
use Rattle.claim_wire.specs.Resources.{ResourceState, are_waiting, put_waiting}
use Rattle.claim_wire.proofs.WaitingLemmas.{position-first, position-none, put-at, put-none, put-waiting, room}
use Rattle.claim_wire.proofs.resource.Resource.wait.Goals as goal

pub invariant_of-self : goal.invariant_of-self
invariant_of-self c =
    let h = c.args.claim in
    let ws = c.self.inside.waiting.items in
    let n = length c.self.inside.freed.items in
    let first =
    position-first (λ w. eqb h.customer w.customer) ws c.in-Some.i
    (c.in-Some.ensures ∙ ap (position (λ (w : Holder). eqb h.customer w.customer)) c.deref.ensures.value) in
    let same = put-at h ws c.in-Some.i c.index_mut-waiting.result.now c.max-waiting.result first c.index_mut-waiting.ensures.value c.max-waiting.ensures in
    let low : h.customer ≤ n = omega (arith, c.requires, ap (λ (v : ResourceState). length v.freed) c.self.view_is) in
    (subst (λ l. are_waiting n l ≡ true) (sym same) (put-waiting n h ws low c.self.invariant.0), c.self.invariant.1)

pub push_reserved-requires : goal.push_reserved-requires
push_reserved-requires c =
    let h = c.args.claim in
    let ws = c.self.inside.waiting.items in
    let n = length c.self.inside.freed.items in
    let none =
    position-none (λ w. eqb h.customer w.customer) ws (c.in-None.ensures
    ∙ ap (position (λ (w : Holder). eqb h.customer w.customer)) c.deref.ensures.value) in
    let low : h.customer ≤ n = omega (arith, c.requires, ap (λ (v : ResourceState). length v.freed) c.self.view_is) in
    omega (arith, room n h ws low none c.self.invariant.0, c.self.invariant.1)

pub invariant_of-self-in-None : goal.invariant_of-self-in-None
invariant_of-self-in-None c =
    let h = c.args.claim in
    let ws = c.self.inside.waiting.items in
    let n = length c.self.inside.freed.items in
    let none =
    position-none (λ w. eqb h.customer w.customer) ws (c.in-None.ensures
    ∙ ap (position (λ (w : Holder). eqb h.customer w.customer)) c.deref.ensures.value) in
    let low : h.customer ≤ n = omega (arith, c.requires, ap (λ (v : ResourceState). length v.freed) c.self.view_is) in (
      subst (λ l. are_waiting n l ≡ true) (put-none h ws none ∙ sym c.push_reserved.ensures.items) (put-waiting n h ws low c.self.invariant.0),
      omega (arith, c.push_reserved.ensures.capacity, c.self.invariant.1),
    )

pub returns-in-Some : goal.returns-in-Some
returns-in-Some c =
    let h = c.args.claim in
    let ws = c.self.inside.waiting.items in
    let first =
    position-first (λ w. eqb h.customer w.customer) ws c.in-Some.i
    (c.in-Some.ensures ∙ ap (position (λ (w : Holder). eqb h.customer w.customer)) c.deref.ensures.value) in
    let same = put-at h ws c.in-Some.i c.index_mut-waiting.result.now c.max-waiting.result first c.index_mut-waiting.ensures.value c.max-waiting.ensures in
    ap (λ l. record { id = c.self.inside.id; holder = c.self.inside.holder; freed = c.self.inside.freed.items; waiting = l }) same
    ∙ ap (λ (v : ResourceState). record { id = v.id; holder = v.holder; freed = v.freed; waiting = put_waiting h v.waiting }) c.self.view_is

pub returns-in-None : goal.returns-in-None
returns-in-None c =
    let h = c.args.claim in
    let ws = c.self.inside.waiting.items in
    let none =
    position-none (λ w. eqb h.customer w.customer) ws (c.in-None.ensures
    ∙ ap (position (λ (w : Holder). eqb h.customer w.customer)) c.deref.ensures.value) in
    ap (λ l. record { id = c.self.inside.id; holder = c.self.inside.holder; freed = c.self.inside.freed.items; waiting = l })
    (c.push_reserved.ensures.items ∙ sym (put-none h ws none))
    ∙ ap (λ (v : ResourceState). record { id = v.id; holder = v.holder; freed = v.freed; waiting = put_waiting h v.waiting }) c.self.view_is
