use Rattle.ad_parser.proofs.Outcomes.{expr_outcome-has, ad_outcome-has, expr_outcome-one, ad_outcome-one}
use Rattle.ad_parser.proofs.laws.texts_have_one_outcome.Goals as goal

pub returns-clause-expression : goal.returns-clause-expression
returns-clause-expression c = expr_outcome-has c.args.text.now

pub returns-clause-one_expression : goal.returns-clause-one_expression
returns-clause-one_expression c = expr_outcome-one c.args.text.now

pub returns-clause-ad : goal.returns-clause-ad
returns-clause-ad c = ad_outcome-has c.args.text.now

pub returns-clause-one_ad : goal.returns-clause-one_ad
returns-clause-one_ad c = ad_outcome-one c.args.text.now
