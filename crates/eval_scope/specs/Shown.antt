-- What contracts see of a world.
use Rattle.std.specs.Prelude.{map, take}
use Rattle.ad_tree.specs.Ad.{ad_frames}
use Rattle.eval_scope.specs.declared.world.World.{World}
use Rattle.eval_scope.specs.World.{PlainWorld}

-- the plain world of a world
abbrev pub world_of : World → PlainWorld
world_of w =
    record { moment = w.moment; request = ad_frames w.request.now; ports = w.ports.now; docked = map (λ ad. ad_frames ad.now) (take w.docked w.resources) }
