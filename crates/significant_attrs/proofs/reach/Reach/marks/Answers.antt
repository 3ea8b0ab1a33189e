use Rattle.std.proofs.Common.{◌∙◌}
use Rattle.std.proofs.lemmas.Result.{IfOk-weaker}
use Rattle.ad_tree.specs.Ad.{ad_frames}
use Rattle.significant_attrs.specs.Reach.{first_names}
use Rattle.significant_attrs.specs.Shown.{ads_in, names_in}
use Rattle.significant_attrs.proofs.MarkLemmas.{marks-along}
use Rattle.significant_attrs.proofs.reach.Reach.marks.Goals as goal

pub returns-clause-ads : goal.returns-clause-ads
returns-clause-ads c =
    IfOk-weaker c.marks_of.result _ _
    (λ marks h ads read. h ∙ marks-along (names_in c.args.self.now) (first_names (ads_in ads)) read (ad_frames c.args.request.now.ad)) c.marks_of.ensures
