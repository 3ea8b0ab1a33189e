use Rattle.std.proofs.Common.{◌≡◌, ◌++◌, drop, map, take}
use Rattle.gang_ports.specs.Search.{forgotten}
use Rattle.gang_ports.proofs.weighing.forget.Given as goal

-- what is known of the resources so far is forgotten
abbrev pub invariant-loop-resource : goal.invariant-loop-resource
invariant-loop-resource l = l.resources ≡ map forgotten (take l.resource-index l.initial.resources) ++ drop l.resource-index l.initial.resources
