use Rattle.std.proofs.Common.{refl}
use Rattle.ad_tree.proofs.SpellingLemmas.{ad_of-finished, phrase_of-finished}
use Rattle.ad_tree.proofs.laws.draft_spells_the_settled_tree.Goals as goal

pub returns-clause-ad : goal.returns-clause-ad
returns-clause-ad g c = ad_of-finished g.tree.1 refl

pub returns-clause-phrase : goal.returns-clause-phrase
returns-clause-phrase g c = (phrase_of-finished g.tree.0 refl).0

pub returns-clause-expr : goal.returns-clause-expr
returns-clause-expr g c = (phrase_of-finished g.tree.0 refl).1
