use Rattle.std.proofs.Common.{◌≤◌, ◌+◌, ◌*◌, [], ap, subst, sym, ◌∙◌}
use Rattle.ad_tree.specs.Ad.{ad_frames}
use Rattle.conjunct_plan.specs.Decided.{is_dock_decided}
use Rattle.conjunct_plan.specs.Tests.{labels_of}
use Rattle.eval_scope.specs.Shown.{world_of}
use Rattle.eval_scope.specs.World.{PlainWorld, attribute_count}
use Rattle.dock_match.specs.Docks.{pair_world}
use Rattle.dock_match.specs.Sides.{open_sides}
use Rattle.dock_match.proofs.MetLemmas.{none-undecided, some-undecided}
use Rattle.bilateral_match.specs.Scan.{ranks_above}
use Rattle.bilateral_match.specs.Scenes.{request_in}
use Rattle.bilateral_match.proofs.MemberWeighLemmas.{ranks-decided}
use Rattle.bilateral_match.proofs.WeighLemmas.{most-left, world-is}
use Rattle.bilateral_match.proofs.members.ranks.Goals as goal

pub returns-in_default-clause-ranks : goal.returns-in_default-clause-ranks
returns-in_default-clause-ranks g c =
    let request = request_in c.args.scene.now in
    let ad = ad_frames c.args.ad.now in
    ap (ranks_above c.args.bar) (ranks-decided c.args.scene.now.moment request ad
    (none-undecided request 0 [] ad (ap (λ ports. open_sides request 0 (labels_of ports) ad) (sym c.requires.single) ∙ sym c.open_sides_by_plan.ensures
    ∙ c.in_default.is)))

pub returns-clause-spent : goal.returns-clause-spent
returns-clause-spent g c =
    let moment = c.args.scene.now.moment in
    let request = request_in c.args.scene.now in
    let ad = ad_frames c.args.ad.now in
    let meter = c.args.meter.now in
    let spent = c.ranks_in.ensures.spent in
    let undecided =
    some-undecided request 0 [] ad c.in-Some.sides (ap (λ ports. open_sides request 0 (labels_of ports) ad) (sym c.requires.single)
    ∙ sym c.open_sides_by_plan.ensures ∙ c.in-Some.is) in
    let world =
    world-is moment request ad c.args.scene.now.request.now.ports (world_of c.new.result) (world_of c.with-world.result) c.new.ensures c.with-world.ensures
    c.requires.single in
    record {
      same = spent.same;
      most_evaluations =
          most-left (is_dock_decided request 0 [] ad) 4 meter.tops.now c.ranks_in.new.meter.tops.now undecided spent.most_evaluations;
      most_entries =
          most-left (is_dock_decided request 0 [] ad) (4 * attribute_count (pair_world moment request ad)) meter.entry.now
          c.ranks_in.new.meter.entry.now undecided
          (subst (λ (w : PlainWorld). c.ranks_in.new.meter.entry.now ≤ meter.entry.now + 4 * attribute_count w) world spent.most_entries);
      most_looks = spent.most_looks;
    }
