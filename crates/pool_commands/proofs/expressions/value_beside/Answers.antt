use Rattle.ad_tree.specs.Ad.{ad_frames}
use Rattle.eval_scope.specs.Shown.{world_of}
use Rattle.pool_commands.proofs.SmallLemmas.{small-alone, small-docked}
use Rattle.pool_commands.proofs.expressions.value_beside.Goals as goal

pub returns-in_err-found-clause-ratio : goal.returns-in_err-found-clause-ratio
returns-in_err-found-clause-ratio g c request small =
    let alone = small-alone c.args.moment (ad_frames c.args.phrase.now.ad) c.new-ports.result (world_of c.new.result) c.new.ensures request in
    c.value.ensures.ratio (small-docked (world_of c.new.result) (world_of c.with-world.result) (ad_frames c.args.ad.now) c.with-world.ensures alone small)

pub returns-clause-ratio : goal.returns-clause-ratio
returns-clause-ratio g c request small =
    let alone = small-alone c.args.moment (ad_frames c.args.phrase.now.ad) c.new-ports.result (world_of c.new.result) c.new.ensures request in
    c.value.ensures.ratio (small-docked (world_of c.new.result) (world_of c.with-world.result) (ad_frames c.args.ad.now) c.with-world.ensures alone small)
