use Rattle.std.proofs.Common.{◌≡◌, ◌<◌, All, drop, length}
use Rattle.ad_tree.specs.Ad.{ad_frames}
use Rattle.ad_tree.specs.Tree.{pack, trees}
use Rattle.gang_ports.specs.Ports.{ports_of_all}
use Rattle.gang_ports.proofs.PortLemmas.{behind}
use Rattle.gang_ports.proofs.ports.ports_in.Given as goal

abbrev pub invariant-loop-i : goal.invariant-loop-i
invariant-loop-i l = record {
  ports : behind l.ports (ports_of_all (ad_frames l.ad) (pack (drop l.i (trees l.items)))) ≡ ports_of_all (ad_frames l.ad) (pack (trees l.items));
  within : All (λ port. port.frame < length (ad_frames l.ad)) l.ports;
}
