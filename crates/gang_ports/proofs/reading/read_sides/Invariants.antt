use Rattle.std.proofs.Common.{◌≡◌, ◌≤◌, ◌+◌, length, sum_by, take}
use Rattle.ad_tree.specs.Ad.{ad_frames}
use Rattle.conjunct_plan.specs.Tests.{labels_of, tests_of}
use Rattle.ad_candidates.specs.Counts.{least_left}
use Rattle.dock_match.specs.Pool.{Pool}
use Rattle.gang_ports.specs.Scenes.{pool_in, stock_in}
use Rattle.gang_ports.specs.Search.{AreSides, HaveSides}
use Rattle.gang_ports.proofs.reading.read_sides.Given as goal

-- the sides of the ports so far
abbrev pub invariant-loop-port : goal.invariant-loop-port
invariant-loop-port g l =
    let pool : Pool = pool_in g.H.Holdings.is_offered g.H.Holdings.holding l.scene in
    record {
      sides : AreSides pool (ad_frames l.request.ad) l.request.ports 0 l.sides.items;
      tests : HaveSides (ad_frames l.request.ad) l.request.ports 0 l.sides.items;
      many : length l.sides.items ≡ l.port-index;
      looks : l.touch ≤ l.initial.touch + sum_by (λ port. least_left (stock_in l.scene).ads
          (tests_of (ad_frames l.request.ad) port.frame (labels_of l.request.ports))) (take l.port-index l.port-items);
    }
