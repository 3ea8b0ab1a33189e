use Rattle.ad_parser.proofs.Outcomes.{ad_answer-fits}
use Rattle.ad_parser.proofs.SmallLemmas.{ad_answer-small}
use Rattle.ad_parser.proofs.parse.parse_ad_seeded.Goals as goal

pub returns-clause-outcome : goal.returns-clause-outcome
returns-clause-outcome c = ad_answer-fits c.args.text.now c.ad_in.result c.ad_in.ensures

pub returns-clause-small : goal.returns-clause-small
returns-clause-small c = ad_answer-small c.args.text.now c.ad_in.result c.ad_in.ensures
