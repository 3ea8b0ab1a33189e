use Rattle.ad_lexer.proofs.Texts.{has_answer, tokens_same, fault_same, not_both}
use Rattle.ad_lexer.proofs.laws.one_answer.Goals as goal

pub returns-clause-some : goal.returns-clause-some
returns-clause-some c = has_answer c.args.text.now

pub returns-clause-one_list : goal.returns-clause-one_list
returns-clause-one_list c = tokens_same c.args.text.now

pub returns-clause-one_fault : goal.returns-clause-one_fault
returns-clause-one_fault c = fault_same c.args.text.now

pub returns-clause-not_both : goal.returns-clause-not_both
returns-clause-not_both c = not_both c.args.text.now
