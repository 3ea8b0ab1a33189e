use Rattle.std.proofs.Common.{◌∙◌, ap}
use Rattle.ad_tree.specs.Ad.{ad_frames}
use Rattle.conjunct_plan.specs.Decided.{is_decided, is_met}
use Rattle.conjunct_plan.specs.Seen.{test_seen}
use Rattle.conjunct_plan.proofs.VerdictLemmas.{not-ruled, ruled-out}
use Rattle.conjunct_plan.proofs.ruling.decided.Goals as goal

pub returns-in-Against : goal.returns-in-Against
returns-in-Against c =
    let fs = ad_frames c.args.ad.now in
    ruled-out c.verdict_by.result (is_decided (test_seen c.of.result) fs c.args.frame) (is_met (test_seen c.of.result) fs c.args.frame) c.verdict_by.ensures
    c.in-Against.is
    ∙ ap (λ test. is_decided test fs c.args.frame) c.of.ensures

pub returns-in_default : goal.returns-in_default
returns-in_default c =
    let fs = ad_frames c.args.ad.now in
    not-ruled c.verdict_by.result (is_decided (test_seen c.of.result) fs c.args.frame) (is_met (test_seen c.of.result) fs c.args.frame) c.verdict_by.ensures
    c.in_default.not-Against
    ∙ ap (λ test. is_decided test fs c.args.frame) c.of.ensures
