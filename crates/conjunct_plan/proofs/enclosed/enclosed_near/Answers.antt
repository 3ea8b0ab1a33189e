use Rattle.std.proofs.Common.{◌∙◌, ap, sym}
use Rattle.std.specs.Option.{option_or}
use Rattle.ad_tree.specs.Ad.{ad_frames}
use Rattle.ad_tree.specs.Frames.{parent_of}
use Rattle.conjunct_plan.proofs.EnclosedLemmas.{enclosed-step, enclosed_any}
use Rattle.conjunct_plan.proofs.enclosed.enclosed_near.Goals as goal

pub returns : goal.returns
returns c =
    let fs = ad_frames c.args.ad.now in
    c.enclosed.ensures
    ∙ ap (enclosed_any fs c.args.name.now) c.in_ok-parent.ensures.parent
    ∙ ap (λ found. option_or found (enclosed_any fs c.args.name.now (parent_of fs c.args.frame))) c.in_default.ensures
    ∙ sym (enclosed-step fs c.args.ad.now.is_ad.lower c.args.frame c.args.name.now)
