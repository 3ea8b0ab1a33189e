use Rattle.std.proofs.Common.{List, ap, map, ◌∙◌}
use Rattle.ad_tree.specs.Ad.{ad_frames}
use Rattle.conjunct_plan.specs.declared.probe.Probe.{Probe}
use Rattle.conjunct_plan.specs.Seen.{test_seen}
use Rattle.conjunct_plan.proofs.PlannedLemmas.{verdict-planned}
use Rattle.conjunct_plan.proofs.side_plan.SidePlan.verdict.Goals as goal

pub returns : goal.returns
returns c = λ fs f labels planned.
    c.verdict_by_all.ensures
    ∙ verdict-planned fs f labels (ad_frames c.args.other.now) c.args.at (map test_seen c.deref.result.now) c.args.self.now.is_whole
    (ap (λ (tests : List Probe). map test_seen tests) c.deref.ensures.value ∙ planned.0) planned.1
