use Rattle.std.proofs.Common.{◌≡◌, ◌+◌, ◌-◌, ◌^◌, ◌≤◌, length, drop, take, sum_by, min}
use Rattle.ad_tree.specs.Ad.{ad_frames}
use Rattle.eval_scope.specs.World.{attribute_count}
use Rattle.eval_scope.specs.Shown.{world_of}
use Rattle.eval_scope.proofs.world.World.attributes.Given as goal

-- what is counted and what is left make the whole
abbrev pub invariant-loop-ad : goal.invariant-loop-ad
invariant-loop-ad l =
    (min (l.total + sum_by (λ ad. sum_by (λ f. length f.attributes) (ad_frames ad.now)) (drop l.ad-index (take l.self.docked l.self.resources))) (2 ^ 64 - 1)
    ≡ min (attribute_count (world_of l.self)) (2 ^ 64 - 1))
    × (l.total ≤ 2 ^ 64 - 1)
