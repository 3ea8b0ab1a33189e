use Rattle.std.proofs.Common.{◌≡◌, subst, sym, true}
use Rattle.pool_text.specs.declared.language.AdPlace.{AdPlace}
use Rattle.eval_scope.specs.Shown.{world_of}
use Rattle.ad_eval.specs.Dock.{meets_requirement}
use Rattle.dock_match.proofs.MetLemmas.{request-closed, resource-closed}
use Rattle.dock_match.proofs.sides.OpenSides.dock.Goals as goal

pub holds-requires : goal.holds-requires
holds-requires g c closed =
    let w = world_of c.args.world.now in
    subst (λ (at : AdPlace). meets_requirement w at ≡ true) (sym c.request_place.ensures)
    (request-closed w c.requires.docked c.args.self c.requires.left closed)

pub holds-requires-2 : goal.holds-requires-2
holds-requires-2 g c closed =
    let w = world_of c.args.world.now in
    subst (λ (at : AdPlace). meets_requirement w at ≡ true) (sym c.resource_place.ensures)
    (resource-closed w c.requires.docked c.args.self c.requires.left closed)
