use Rattle.ad_tree.specs.Ad.{ad_frames}
use Rattle.ad_tree.proofs.AdLemmas.{above-cited, cited_within}
use Rattle.ad_tree.proofs.laws.ad_is_well_formed.Goals as goal

pub returns-clause-well_formed : goal.returns-clause-well_formed
returns-clause-well_formed c = c.args.ad.now.is_ad

pub returns-clause-inner_frames : goal.returns-clause-inner_frames
returns-clause-inner_frames c =
    λ f g h. (above-cited (ad_frames c.args.ad.now) c.args.ad.now.is_ad f g h, cited_within (ad_frames c.args.ad.now) c.args.ad.now.is_ad f g h)
