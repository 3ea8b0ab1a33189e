use Rattle.std.proofs.Common.{ap, ◌∙◌}
use Rattle.ad_tree.specs.Ad.{ad_frames}
use Rattle.conjunct_plan.specs.declared.verdict.Verdict.{Verdict}
use Rattle.conjunct_plan.specs.Tests.{labels_of}
use Rattle.dock_match.specs.Sides.{open_beside}
use Rattle.dock_match.proofs.sides.open_sides_by_plan.Goals as goal

pub returns : goal.returns
returns c =
    let request = ad_frames c.args.request.now.ad in
    let ad = ad_frames c.args.ad.now in
    c.open_beside.ensures
    ∙ ap (λ (asked : Verdict). open_beside asked request c.args.frame ad)
    (c.verdict.ensures request c.args.frame (labels_of c.args.request.now.ports) c.requires.planned)
