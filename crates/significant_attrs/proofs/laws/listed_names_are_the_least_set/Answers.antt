use Rattle.significant_attrs.proofs.ReachLemmas.{list_is_least}
use Rattle.significant_attrs.proofs.laws.listed_names_are_the_least_set.Goals as goal

pub returns : goal.returns
returns g c = list_is_least g.given.0 g.given.1
