use Rattle.ad_parser.proofs.Outcomes.{expr_answer-fits}
use Rattle.ad_parser.proofs.SmallLemmas.{expr_answer-small}
use Rattle.ad_parser.proofs.parse.parse_expr_seeded.Goals as goal

pub returns-clause-outcome : goal.returns-clause-outcome
returns-clause-outcome c = expr_answer-fits c.args.text.now c.phrase_in.result c.phrase_in.ensures

pub returns-clause-small : goal.returns-clause-small
returns-clause-small c = expr_answer-small c.args.text.now c.phrase_in.result c.phrase_in.ensures
