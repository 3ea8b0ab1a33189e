use Rattle.std.proofs.Common.{◌≡◌, true, length, sym, subst, ap, ◌∙◌, refl, arith}
use Rattle.claim_wire.specs.Resources.{are_waiting}
use Rattle.claim_wire.proofs.WaitingLemmas.{zeros-length, zeros-replicate}
use Rattle.claim_wire.proofs.resource.Resource.new.Goals as goal

pub invariant_of-result : goal.invariant_of-result
invariant_of-result c =
    let same = c.in_ok-freed.ensures.items_if_clones_equal (λ y h. h) ∙ zeros-replicate c.args.customers in (
      subst (λ ws. are_waiting (length c.in_ok-freed.freed.items) ws ≡ true) (sym c.in_ok-waiting.ensures.items) refl,
      omega (arith, ap length same, zeros-length c.args.customers, c.in_ok-waiting.ensures.capacity),
    )

pub returns-clause-new : goal.returns-clause-new
returns-clause-new c =
    let same = c.in_ok-freed.ensures.items_if_clones_equal (λ y h. h) ∙ zeros-replicate c.args.customers in
    rw (same, c.in_ok-waiting.ensures.items) refl

pub returns-clause-customers : goal.returns-clause-customers
returns-clause-customers c =
    let same = c.in_ok-freed.ensures.items_if_clones_equal (λ y h. h) ∙ zeros-replicate c.args.customers in
    omega (arith, ap length same, zeros-length c.args.customers)
