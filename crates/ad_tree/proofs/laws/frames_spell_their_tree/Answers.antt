use Rattle.ad_tree.proofs.SpellingLemmas.{spelled-frames, spelled_tree-frames}
use Rattle.ad_tree.proofs.laws.frames_spell_their_tree.Goals as goal

pub returns-clause-ad : goal.returns-clause-ad
returns-clause-ad g c = spelled-frames g.tree.1

pub returns-clause-phrase : goal.returns-clause-phrase
returns-clause-phrase g c = spelled_tree-frames g.tree.0
