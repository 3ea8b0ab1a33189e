use Rattle.std.proofs.Common.{◌≡◌, drop, map}
use Rattle.ad_tree.specs.Ad.{ad_frames}
use Rattle.conjunct_plan.specs.Planned.{verdict_by_all}
use Rattle.conjunct_plan.specs.Seen.{test_seen}
use Rattle.conjunct_plan.proofs.side_plan.verdict_by_all.Given as goal

abbrev pub invariant-loop-i : goal.invariant-loop-i
invariant-loop-i l =
    verdict_by_all (ad_frames l.other) l.at l.met (map test_seen (drop l.i l.tests))
    ≡ verdict_by_all (ad_frames l.other) l.at l.initial.met (map test_seen l.tests)
