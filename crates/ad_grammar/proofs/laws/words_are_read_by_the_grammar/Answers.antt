use Rattle.ad_grammar.proofs.GrammarLaws.{parsed_expr-complete, parsed_expr-sound, parsed_ad-complete, parsed_ad-sound}
use Rattle.ad_grammar.proofs.laws.words_are_read_by_the_grammar.Goals as goal

pub returns-clause-expression_read : goal.returns-clause-expression_read
returns-clause-expression_read g c = parsed_expr-complete g.words

pub returns-clause-expression_spelled : goal.returns-clause-expression_spelled
returns-clause-expression_spelled g c = parsed_expr-sound g.words

pub returns-clause-ad_read : goal.returns-clause-ad_read
returns-clause-ad_read g c = parsed_ad-complete g.words

pub returns-clause-ad_spelled : goal.returns-clause-ad_spelled
returns-clause-ad_spelled g c = parsed_ad-sound g.words
