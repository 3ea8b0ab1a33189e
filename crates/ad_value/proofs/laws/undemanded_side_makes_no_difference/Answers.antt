use Rattle.ad_value.specs.Plain.{plain}
use Rattle.ad_value.proofs.LogicLemmas.{and_is_decided-iff, or_is_decided-iff}
use Rattle.ad_value.proofs.laws.undemanded_side_makes_no_difference.Goals as goal

pub returns-clause-and : goal.returns-clause-and
returns-clause-and c = and_is_decided-iff (plain c.args.left.now)

pub returns-clause-or : goal.returns-clause-or
returns-clause-or c = or_is_decided-iff (plain c.args.left.now)
