use Rattle.ad_parser.specs.Answers.{frames_of_expr, frames_of_ad}
use Rattle.ad_grammar.specs.Grammar.{IsExpr, IsRoot}
use Rattle.ad_parser.proofs.AnswerLemmas.{one_answer}
use Rattle.ad_grammar.proofs.UniqueLemmas.{expr-one, root-one, expr-decided, root-decided}
use Rattle.ad_parser.proofs.laws.texts_have_one_answer.Goals as goal

pub returns-clause-expression : goal.returns-clause-expression
returns-clause-expression c = one_answer IsExpr frames_of_expr expr-one expr-decided c.args.text.now

pub returns-clause-ad : goal.returns-clause-ad
returns-clause-ad c = one_answer IsRoot frames_of_ad root-one root-decided c.args.text.now
