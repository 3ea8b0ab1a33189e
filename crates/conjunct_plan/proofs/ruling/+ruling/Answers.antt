use Rattle.std.proofs.Common.{◌∙◌, ap, sym, arith, Bool, Option, option_map}
use Rattle.ad_tree.specs.Ad.{ad_frames}
use Rattle.ad_tree.specs.Tree.{Tree, tree, trees}
use Rattle.ad_tree.proofs.TreeLemmas.{size-at}
use Rattle.conjunct_plan.specs.declared.test.Test.{Test}
use Rattle.conjunct_plan.specs.Decided.{is_decided, is_met_test}
use Rattle.conjunct_plan.specs.Seen.{test_seen}
use Rattle.conjunct_plan.specs.Tests.{labels_of, test_of}
use Rattle.conjunct_plan.proofs.VerdictLemmas.{against-behind, for-behind, open-behind, says-alone}
use Rattle.conjunct_plan.proofs.ruling.+ruling.Goals as goal
use Rattle.conjunct_plan.proofs.ruling.+ruling.Goals.{verdict_on_all-in-For, verdict_on_all-in-Open}

pub verdict_on_all-verdict_on-requires : goal.verdict_on_all-verdict_on-requires
verdict_on_all-verdict_on-requires t c =
    let smaller = size-at (trees c.args.items.now) c.loop-i.i (tree c.at.result.now) c.at.ensures in
    (omega arith, (c.requires.frame, c.requires.at))

pub verdict_on_all-returns-in-Against : goal.verdict_on_all-returns-in-Against
verdict_on_all-returns-in-Against t c =
    let F : Tree → Option Test = test_of (ad_frames c.args.ad.now) c.args.frame (labels_of c.args.ports.now) in
    let D : Test → Bool = λ test. is_decided test (ad_frames c.args.other.now) c.args.at in
    let M : Tree → Bool = is_met_test (ad_frames c.args.ad.now) c.args.frame (labels_of c.args.ports.now) (ad_frames c.args.other.now) c.args.at in
    sym (against-behind F D M (trees c.args.items.now) c.loop-i.i (tree c.at.result.now) c.at.ensures c.verdict_on.result c.loop-i.met c.verdict_on.ensures
    c.in-Against.is)
    ∙ c.loop-i.invariant

pub verdict_on_all-loop-i-preserved : goal.verdict_on_all-loop-i-preserved
verdict_on_all-loop-i-preserved t c =
    let F : Tree → Option Test = test_of (ad_frames c.args.ad.now) c.args.frame (labels_of c.args.ports.now) in
    let D : Test → Bool = λ test. is_decided test (ad_frames c.args.other.now) c.args.at in
    let M : Tree → Bool = is_met_test (ad_frames c.args.ad.now) c.args.frame (labels_of c.args.ports.now) (ad_frames c.args.other.now) c.args.at in
    elim c.match-verdict_on.branch [
      | verdict_on_all-in-For b ↦ rw (b.met-is) (for-behind F D M (trees c.args.items.now) c.loop-i.i (tree c.at.result.now) c.at.ensures c.verdict_on.result
          c.loop-i.met c.verdict_on.ensures b.in-For.is ∙ c.loop-i.invariant)
      | verdict_on_all-in-Open b ↦ rw (b.met-is) (open-behind F D M (trees c.args.items.now) c.loop-i.i (tree c.at.result.now) c.at.ensures c.verdict_on.result
          c.loop-i.met c.verdict_on.ensures b.in-Open.is ∙ c.loop-i.invariant)
    ]

pub verdict_on-returns-in-Some : goal.verdict_on-returns-in-Some
verdict_on-returns-in-Some t c =
    c.verdict_by.ensures
    ∙ says-alone (ad_frames c.args.ad.now) c.args.frame (labels_of c.args.ports.now) (ad_frames c.args.other.now) c.args.at (test_seen c.in-Some.probe)
    (tree c.args.expr.now) (ap (λ o. option_map test_seen o) (sym c.in-Some.is) ∙ c.probe_of.ensures)
