use Rattle.std.proofs.Common.{sym, ◌∙◌}
use Rattle.ad_tree.specs.Ad.{ad_frames}
use Rattle.dock_match.specs.Pool.{Pool}
use Rattle.gang_ports.specs.Scenes.{pool_in}
use Rattle.gang_ports.proofs.ReadingLemmas.{none-asked, some-asked}
use Rattle.gang_ports.proofs.reading.resource_at.Goals as goal

pub returns-in_default-clause-found : goal.returns-in_default-clause-found
returns-in_default-clause-found g c =
    let pool : Pool = pool_in g.H.Holdings.is_offered g.H.Holdings.holding c.args.scene.now in
    none-asked pool (ad_frames c.args.request.now.ad) c.args.request.now.ports c.args.frame c.args.place (ad_frames c.look-ad.result.now)
    (c.look-ad.ensures.ad c.args.place c.at-slot.ensures.place) (sym c.open_sides_by_plan.ensures ∙ c.in_default.is)

pub returns-clause-found : goal.returns-clause-found
returns-clause-found g c =
    let pool : Pool = pool_in g.H.Holdings.is_offered g.H.Holdings.holding c.args.scene.now in
    some-asked pool (ad_frames c.args.request.now.ad) c.args.request.now.ports c.args.frame c.args.place (ad_frames c.look-ad.result.now)
    (c.look-ad.ensures.ad c.args.place c.at-slot.ensures.place) c.in-Some.sides
    (sym (c.is_free.ensures c.args.place c.at-slot.ensures.place) ∙ c.if-not-is_free.false) (sym c.open_sides_by_plan.ensures ∙ c.in-Some.is)
