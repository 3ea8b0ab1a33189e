use Rattle.ad_tree.specs.Ad.{ad_frames}
use Rattle.ad_tree.proofs.AdLemmas.{inside-level}
use Rattle.ad_tree.proofs.laws.ad_is_spelled_level_by_level.Goals as goal

pub returns : goal.returns
returns c = inside-level (ad_frames c.args.ad.now) c.args.ad.now.is_ad
