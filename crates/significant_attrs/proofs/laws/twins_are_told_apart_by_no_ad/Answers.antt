use Rattle.ad_tree.specs.Ad.{ad_frames}
use Rattle.significant_attrs.proofs.TwinLemmas.{twins-alike}
use Rattle.significant_attrs.proofs.laws.twins_are_told_apart_by_no_ad.Goals as goal

pub returns : goal.returns
returns c =
    λ marks ads ad moment marked twins stands. twins-alike ads (ad_frames c.args.one.now) (ad_frames c.args.other.now) ad marks c.args.one.now.is_ad twins
    marked stands moment
