use Rattle.std.proofs.Common.{◌≡◌, drop}
use Rattle.ad_tree.specs.Names.{are_apart}
use Rattle.gang_ports.proofs.PortLemmas.{labels}
use Rattle.gang_ports.proofs.ports.are_apart.Given as goal

abbrev pub invariant-loop-i : goal.invariant-loop-i
invariant-loop-i l = are_apart (labels (drop l.i l.ports)) ≡ are_apart (labels l.ports)
