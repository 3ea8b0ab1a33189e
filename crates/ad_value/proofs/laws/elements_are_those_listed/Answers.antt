use Rattle.ad_value.proofs.PlainLemmas.{elements-plains_of, plains_of-elements}
use Rattle.ad_value.proofs.laws.elements_are_those_listed.Goals as goal

pub returns-clause-listed : goal.returns-clause-listed
returns-clause-listed c = elements-plains_of

pub returns-clause-again : goal.returns-clause-again
returns-clause-again c = plains_of-elements
