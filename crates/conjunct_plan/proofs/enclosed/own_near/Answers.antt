use Rattle.std.proofs.Common.{◌∙◌, ap, sym}
use Rattle.pool_text.specs.Folding.{folded}
use Rattle.ad_tree.specs.Ad.{ad_frames}
use Rattle.conjunct_plan.proofs.PlaceLemmas.{expr-there}
use Rattle.conjunct_plan.proofs.enclosed.own_near.Goals as goal

pub returns-then-same_folded : goal.returns-then-same_folded
returns-then-same_folded c =
    sym (expr-there (ad_frames c.args.ad.now) c.args.frame c.get-near.result c.args.name.now c.name.result.now _ (c.args.ad.now.is_ad.apart c.args.frame)
    c.name.ensures (sym (c.same_folded.ensures.0 c.if-same_folded.true) ∙ ap folded c.bytes.ensures) c.expr.ensures)
