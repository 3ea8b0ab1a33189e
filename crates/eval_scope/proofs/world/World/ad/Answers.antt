use Rattle.std.proofs.Common.{sym, arith, ◌≤◌, length}
use Rattle.ad_tree.specs.Ad.{ad_frames}
use Rattle.eval_scope.proofs.WorldLemmas.{shown-at}
use Rattle.eval_scope.proofs.world.World.ad.Goals as goal

pub returns : goal.returns
returns c =
    let w = c.args.self.now in
    let room : w.docked ≤ length w.resources = omega arith in
    sym (shown-at (λ ad. ad_frames ad.now) (ad_frames w.request.now) w.resources w.docked c.args.ad c.index-resources-place.result c.if-ad-eq0.false
    c.if-place-self.false room c.index-resources-place.is)
