use Rattle.match_explain.proofs.LawLemmas.{accepted-is, docked-is}
use Rattle.match_explain.proofs.laws.accepted_ads_are_those_that_dock.Goals as goal

pub returns-clause-accepted : goal.returns-clause-accepted
returns-clause-accepted c = accepted-is

pub returns-clause-docked : goal.returns-clause-docked
returns-clause-docked c = docked-is
