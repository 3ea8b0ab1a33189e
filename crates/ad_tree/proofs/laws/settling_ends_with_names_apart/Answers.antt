use Rattle.ad_tree.proofs.SpellingLemmas.{apart-settled, settled-apart, settled-settled}
use Rattle.ad_tree.proofs.laws.settling_ends_with_names_apart.Goals as goal

pub returns-clause-apart : goal.returns-clause-apart
returns-clause-apart g c = apart-settled g.tree

pub returns-clause-unchanged : goal.returns-clause-unchanged
returns-clause-unchanged g c = settled-apart g.tree

pub returns-clause-once : goal.returns-clause-once
returns-clause-once g c = settled-settled g.tree
