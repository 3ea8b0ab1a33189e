use Rattle.ad_grammar.proofs.MadeLemmas.{expr-made, root-made}
use Rattle.ad_grammar.proofs.laws.words_make_parsed_trees.Goals as goal

pub returns-clause-expression : goal.returns-clause-expression
returns-clause-expression g c = λ x made is. expr-made g.words x is made

pub returns-clause-ad : goal.returns-clause-ad
returns-clause-ad g c = λ x made is. root-made g.words x is made
