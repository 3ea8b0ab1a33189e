use Rattle.ad_tree.specs.Ad.{ad_frames}
use Rattle.eval_scope.specs.Shown.{world_of}
use Rattle.pool_commands.proofs.SmallLemmas.{small-alone}
use Rattle.pool_commands.proofs.expressions.value_alone.Goals as goal

pub returns-in_err-found-clause-ratio : goal.returns-in_err-found-clause-ratio
returns-in_err-found-clause-ratio g c small =
    c.value.ensures.ratio (small-alone c.args.moment (ad_frames c.args.phrase.now.ad) c.new-ports.result (world_of c.new-world.result) c.new-world.ensures
    small)

pub returns-clause-ratio : goal.returns-clause-ratio
returns-clause-ratio g c small =
    c.value.ensures.ratio (small-alone c.args.moment (ad_frames c.args.phrase.now.ad) c.new-ports.result (world_of c.new-world.result) c.new-world.ensures
    small)
