use Rattle.std.proofs.Common.{◌∙◌}
use Rattle.std.proofs.lemmas.Result.{IfOk-weaker}
use Rattle.ad_tree.specs.Ad.{ad_frames}
use Rattle.significant_attrs.specs.Reach.{first_names}
use Rattle.significant_attrs.specs.Shown.{ads_in, names_in}
use Rattle.job_classes.proofs.EntryLemmas.{key-marked}
use Rattle.job_classes.proofs.KeyLemmas.{keys-alike}
use Rattle.job_classes.proofs.key.Key.of.Goals as goal

pub returns-clause-names : goal.returns-clause-names
returns-clause-names c =
    IfOk-weaker c.of_marked.result _ _
    (λ key h. h ∙ key-marked (names_in c.args.reach.now) (ad_frames c.args.request.now.ad) c.deref.result.now (c.deref.ensures.value
    ∙ c.in_ok-marks.ensures.names)) c.of_marked.ensures

pub returns-clause-ads : goal.returns-clause-ads
returns-clause-ads c =
    IfOk-weaker c.of_marked.result _ _
    (λ key h ads read. h ∙ key-marked (names_in c.args.reach.now) (ad_frames c.args.request.now.ad) c.deref.result.now (c.deref.ensures.value
    ∙ c.in_ok-marks.ensures.names)
    ∙ keys-alike (names_in c.args.reach.now) (first_names (ads_in ads)) read (ad_frames c.args.request.now.ad)) c.of_marked.ensures
