use Rattle.ad_tree.specs.Inline.{inner, no_defs, settled, settled_defs}
use Rattle.ad_tree.proofs.AdLemmas.{IsAd-frames, IsAd-phrase}
use Rattle.ad_tree.proofs.SpellingLemmas.{apart-settled}
use Rattle.ad_tree.proofs.laws.spelled_trees_have_ads.Goals as goal

pub returns-clause-ad : goal.returns-clause-ad
returns-clause-ad g c = IsAd-frames (settled_defs no_defs g.tree.1) (apart-settled (inner g.tree.1))

pub returns-clause-phrase : goal.returns-clause-phrase
returns-clause-phrase g c = IsAd-phrase (settled g.tree.0) (apart-settled g.tree.0)
