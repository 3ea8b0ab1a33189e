use Rattle.std.proofs.Common.{ap, suc}
use Rattle.ad_tree.proofs.InlineLemmas.{length-frames, length-frames_in}
use Rattle.ad_tree.proofs.laws.each_ad_literal_is_one_frame.Goals as goal

pub returns-clause-ad : goal.returns-clause-ad
returns-clause-ad g c = ap suc (length-frames_in 0 1 g.tree.1)

pub returns-clause-phrase : goal.returns-clause-phrase
returns-clause-phrase g c = ap suc (length-frames 0 1 g.tree.0)
