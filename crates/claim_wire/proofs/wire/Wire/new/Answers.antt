use Rattle.std.proofs.Common.{List, length, sym, subst, ap, ◌∙◌}
use Rattle.claim_wire.specs.declared.message.Message.{Message}
use Rattle.claim_wire.specs.Customers.{CustomerState}
use Rattle.claim_wire.specs.Resources.{ResourceState}
use Rattle.claim_wire.specs.Facts.{Facts}
use Rattle.claim_wire.specs.Wires as spec
use Rattle.claim_wire.proofs.WireLemmas.{new-facts, new_customers-length, new_resources-length}
use Rattle.claim_wire.proofs.wire.Wire.new.Goals as goal

pub invariant_of-result : goal.invariant_of-result
invariant_of-result c =
    let e =
    ap (λ (cs : List CustomerState). record { customers = cs; resources = c.in_ok-holders.holders.items; sent = c.new.result.items }) c.in_ok-askers.ensures
    ∙ ap (λ (rs : List ResourceState). record { customers = spec.new_customers c.args.customers; resources = rs; sent = c.new.result.items })
    c.in_ok-holders.ensures
    ∙ ap (λ (ms : List Message). record {
      customers =
          spec.new_customers c.args.customers;
      resources = spec.new_resources c.args.customers c.args.resources;
      sent = ms;
    }) c.new.ensures.items in
    subst Facts (sym e) (new-facts c.args.resources c.args.customers)

pub returns-clause-ends : goal.returns-clause-ends
returns-clause-ends c = (
  ap (λ (rs : List ResourceState). length rs) c.in_ok-holders.ensures ∙ new_resources-length c.args.customers c.args.resources,
  ap (λ (cs : List CustomerState). length cs) c.in_ok-askers.ensures ∙ new_customers-length c.args.customers,
)
