use Rattle.std.proofs.Common.{min, sum_by, length, take}
use Rattle.ad_tree.specs.Ad.{ad_frames}
use Rattle.eval_scope.specs.World.{attribute_count}
use Rattle.eval_scope.specs.Shown.{world_of}
use Rattle.eval_scope.proofs.WorldLemmas.{counted-end, most}
use Rattle.eval_scope.proofs.world.World.attributes.Goals as goal

pub returns : goal.returns
returns c =
    let w = c.args.self.now in
    counted-end (λ ad. sum_by (λ f. length f.attributes) (ad_frames ad.now)) (take w.docked w.resources) c.loop-ad.ad-index c.loop-ad.total
    (min (attribute_count (world_of w)) most) c.loop-ad-test.false c.loop-ad.invariant.1 c.loop-ad.invariant.0
