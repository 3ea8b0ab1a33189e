use Rattle.std.proofs.Common.{arith, sym, ◌∙◌}
use Rattle.ad_tree.specs.Ad.{ad_frames}
use Rattle.eval_scope.specs.Shown.{world_of}
use Rattle.gang_ports.specs.Scenes.{world_behind}
use Rattle.gang_ports.proofs.OpenLemmas.{docked-open, ruled-worthless, some-docked}
use Rattle.gang_ports.proofs.SmallLemmas.{docked-small}
use Rattle.gang_ports.proofs.weighing.rank_behind.Goals as goal

pub rank_where_docked-requires-clause-docked : goal.rank_where_docked-requires-clause-docked
rank_where_docked-requires-clause-docked g c =
    some-docked (world_behind c.args.prefix.now) (world_of c.with-world.result) (ad_frames c.args.resource.now.ad.now) c.with-world.ensures

pub rank_where_docked-requires-clause-tests : goal.rank_where_docked-requires-clause-tests
rank_where_docked-requires-clause-tests g c =
    docked-open (world_behind c.args.prefix.now) (world_of c.with-world.result) c.args.resource.now c.with-world.ensures c.requires.tests

pub returns-then-is_ruled_out-clause-rank : goal.returns-then-is_ruled_out-clause-rank
returns-then-is_ruled_out-clause-rank g c =
    sym (ruled-worthless (world_behind c.args.prefix.now) c.args.prefix.now.late (ad_frames c.args.resource.now.ad.now) c.args.prefix.now.are_late
    (sym c.is_ruled_out.ensures ∙ c.if-is_ruled_out.true))

pub returns-clause-ratio : goal.returns-clause-ratio
returns-clause-ratio g c small fits =
    omega (
      arith,
      c.rank_where_docked.ensures.ratio (docked-small (world_behind c.args.prefix.now) (world_of c.with-world.result) (ad_frames c.args.resource.now.ad.now)
          c.with-world.ensures small fits),
    )
