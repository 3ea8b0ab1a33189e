use Rattle.ad_tree.specs.Ad.{ad_frames}
use Rattle.conjunct_plan.specs.Decided.{is_side_met, rules_out}
use Rattle.conjunct_plan.specs.Tests.{labels_of}
use Rattle.conjunct_plan.proofs.VerdictLemmas.{not-ruled}
use Rattle.conjunct_plan.proofs.ruling.rules_out.Goals as goal

pub returns-in_default : goal.returns-in_default
returns-in_default c =
    let fs = ad_frames c.args.ad.now in
    let other = ad_frames c.args.other.now in
    let labels = labels_of c.args.ports.now in
    not-ruled c.verdict_of.result (rules_out fs c.args.frame labels other c.args.at) (is_side_met fs c.args.frame labels other c.args.at) c.verdict_of.ensures
    c.in_default.not-Against
