use Rattle.std.proofs.Common.{sym, ◌∙◌}
use Rattle.ad_tree.specs.Ad.{ad_frames}
use Rattle.conjunct_plan.proofs.PlannedLemmas.{against-next, for-next, open-next}
use Rattle.conjunct_plan.proofs.side_plan.verdict_by_all.Goals as goal
use Rattle.conjunct_plan.proofs.side_plan.verdict_by_all.Goals.{in-For, in-Open}

pub returns-in-Against : goal.returns-in-Against
returns-in-Against c =
    sym (against-next (ad_frames c.args.other.now) c.args.at c.args.tests.now c.loop-i.i c.index-tests-i.result c.index-tests-i.is c.loop-i-test.true
    c.loop-i.met c.verdict_at.result c.verdict_at.ensures c.in-Against.is)
    ∙ c.loop-i.invariant

pub loop-i-preserved : goal.loop-i-preserved
loop-i-preserved c =
    let other = ad_frames c.args.other.now in
    elim c.match-verdict_at.branch [
      | in-For b ↦ rw (b.met-is) (for-next other c.args.at c.args.tests.now c.loop-i.i c.index-tests-i.result c.index-tests-i.is c.loop-i-test.true
          c.loop-i.met c.verdict_at.result c.verdict_at.ensures b.in-For.is ∙ c.loop-i.invariant)
      | in-Open b ↦ rw (b.met-is) (open-next other c.args.at c.args.tests.now c.loop-i.i c.index-tests-i.result c.index-tests-i.is c.loop-i-test.true
          c.loop-i.met c.verdict_at.result c.verdict_at.ensures b.in-Open.is ∙ c.loop-i.invariant)
    ]
