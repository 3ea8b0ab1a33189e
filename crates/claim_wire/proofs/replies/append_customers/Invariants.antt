use Rattle.std.proofs.Common.{◌≡◌, ◌++◌, take}
use Rattle.std.specs.List.{flat_map}
use Rattle.claim_wire.specs.Replies.{customer_line}
use Rattle.claim_wire.proofs.replies.append_customers.Given as goal

abbrev pub invariant-loop-customer : goal.invariant-loop-customer
invariant-loop-customer l = l.out ≡ l.initial.out ++ flat_map customer_line (take l.customer-index l.customers)
