use Rattle.claim_wire.specs.Wires.{new_wire, run}
use Rattle.claim_wire.proofs.WireLemmas.{new-facts, run-facts, facts-safe, facts-one}
use Rattle.claim_wire.proofs.laws.holding_customers_are_holders.Goals as goal

pub returns-clause-safe : goal.returns-clause-safe
returns-clause-safe c =
    λ resources customers events. facts-safe (run events (new_wire resources customers))
    (run-facts events (new_wire resources customers) (new-facts resources customers))

pub returns-clause-one_holder : goal.returns-clause-one_holder
returns-clause-one_holder c =
    λ resources customers events. facts-one (run events (new_wire resources customers))
    (run-facts events (new_wire resources customers) (new-facts resources customers))
