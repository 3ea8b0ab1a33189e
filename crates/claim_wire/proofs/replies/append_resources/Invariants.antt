use Rattle.std.proofs.Common.{◌≡◌, ◌++◌, take}
use Rattle.std.specs.List.{flat_map}
use Rattle.claim_wire.specs.Replies.{resource_line}
use Rattle.claim_wire.proofs.replies.append_resources.Given as goal

abbrev pub invariant-loop-resource : goal.invariant-loop-resource
invariant-loop-resource l = l.out ≡ l.initial.out ++ flat_map resource_line (take l.resource-index l.resources)
