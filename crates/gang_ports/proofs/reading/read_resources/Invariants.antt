use Rattle.std.proofs.Common.{◌≡◌, ◌≤◌, ◌+◌, ◌&&◌, true, All, filter, map, take}
use Rattle.ad_tree.specs.Ad.{ad_frames}
use Rattle.dock_match.specs.Pool.{Pool}
use Rattle.gang_ports.specs.declared.weighing.Resource.{Resource}
use Rattle.gang_ports.specs.Gangs.{ad_at, is_free, is_open}
use Rattle.gang_ports.specs.Scenes.{pool_in}
use Rattle.gang_ports.specs.Search.{HasSides, is_unknown}
use Rattle.gang_ports.proofs.reading.read_resources.Given as goal

-- the resources of the places so far
abbrev pub invariant-loop-place : goal.invariant-loop-place
invariant-loop-place g l =
    let pool : Pool = pool_in g.H.Holdings.is_offered g.H.Holdings.holding l.scene in
    record {
      places : map (λ (r : Resource). r.place) l.resources.items
          ≡ filter (λ place. is_free pool place && is_open pool (ad_frames l.request.ad) l.request.ports l.frame place) (take l.place-index l.place-items);
      ads : All (λ (r : Resource). ad_frames r.ad.now ≡ ad_at pool r.place) l.resources.items;
      tests : All (HasSides (ad_frames l.request.ad) l.request.ports l.frame) l.resources.items;
      unknown : All (λ (r : Resource). is_unknown r.kept ≡ true) l.resources.items;
      looks : l.touch ≤ l.initial.touch + l.place-index;
    }
