use Rattle.std.proofs.Common.{◌≡◌, [], IfOk, ap, arith, subst, sym, ◌∙◌}
use Rattle.ad_tree.specs.Ad.{ad_frames}
use Rattle.conjunct_plan.specs.Tests.{labels_of}
use Rattle.eval_scope.specs.Shown.{world_of}
use Rattle.eval_scope.specs.World.{PlainWorld}
use Rattle.dock_match.specs.Docks.{ranked_in}
use Rattle.dock_match.specs.Sides.{open_sides}
use Rattle.dock_match.proofs.MetLemmas.{none-undecided, some-undecided}
use Rattle.dock_match.proofs.SmallLemmas.{pair-small}
use Rattle.bilateral_match.proofs.WeighLemmas.{ranked-decided, three-evaluations, three-worlds, world-is}
use Rattle.bilateral_match.proofs.weighing.ranked.Goals as goal

pub returns-in_default-clause-rank : goal.returns-in_default-clause-rank
returns-in_default-clause-rank g c =
    let scene = c.args.scene.now in
    let request = ad_frames scene.request.now.ad in
    let ad = ad_frames c.args.ad.now in
    sym (ranked-decided scene.moment request ad (none-undecided request 0 [] ad
    (ap (λ ports. open_sides request 0 (labels_of ports) ad) (sym c.requires) ∙ sym c.open_sides_by_plan.ensures ∙ c.in_default.is)))

pub returns-clause-rank : goal.returns-clause-rank
returns-clause-rank g c =
    let scene = c.args.scene.now in
    let request = ad_frames scene.request.now.ad in
    let ad = ad_frames c.args.ad.now in
    let same =
    world-is scene.moment request ad scene.request.now.ports (world_of c.new.result) (world_of c.with-world.result) c.new.ensures c.with-world.ensures
    c.requires in
    subst (λ (w : PlainWorld). IfOk c.ranked_in.result (λ rank. rank ≡ ranked_in w)) same c.ranked_in.ensures.rank

pub returns-clause-evaluations : goal.returns-clause-evaluations
returns-clause-evaluations g c =
    let scene = c.args.scene.now in
    let request = ad_frames scene.request.now.ad in
    let ad = ad_frames c.args.ad.now in
    let undecided =
    some-undecided request 0 [] ad c.in-Some.sides (ap (λ ports. open_sides request 0 (labels_of ports) ad) (sym c.requires)
    ∙ sym c.open_sides_by_plan.ensures ∙ c.in-Some.is) in
    omega (arith, c.ranked_in.ensures.evaluations, three-evaluations scene.moment request ad undecided)

pub returns-clause-entries : goal.returns-clause-entries
returns-clause-entries g c =
    let scene = c.args.scene.now in
    let request = ad_frames scene.request.now.ad in
    let ad = ad_frames c.args.ad.now in
    let undecided =
    some-undecided request 0 [] ad c.in-Some.sides (ap (λ ports. open_sides request 0 (labels_of ports) ad) (sym c.requires)
    ∙ sym c.open_sides_by_plan.ensures ∙ c.in-Some.is) in
    let same =
    world-is scene.moment request ad scene.request.now.ports (world_of c.new.result) (world_of c.with-world.result) c.new.ensures c.with-world.ensures
    c.requires in
    omega (arith, c.ranked_in.ensures.entries, three-worlds scene.moment request ad (world_of c.with-world.result) same undecided)

pub returns-clause-ratio : goal.returns-clause-ratio
returns-clause-ratio g c small_request small_ad =
    let scene = c.args.scene.now in
    let request = ad_frames scene.request.now.ad in
    let ad = ad_frames c.args.ad.now in
    let same =
    world-is scene.moment request ad scene.request.now.ports (world_of c.new.result) (world_of c.with-world.result) c.new.ensures c.with-world.ensures
    c.requires in
    c.ranked_in.ensures.ratio (pair-small scene.moment request ad (world_of c.with-world.result) same small_request small_ad)
