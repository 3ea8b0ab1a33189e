use Rattle.std.proofs.Common.{◌≡◌}
use Rattle.claim_wire.specs.Wires.{new_resources}
use Rattle.claim_wire.proofs.wire.new_resources.Given as goal

abbrev pub invariant-loop-before : goal.invariant-loop-before
invariant-loop-before l = l.ends.items ≡ new_resources l.customers l.before
