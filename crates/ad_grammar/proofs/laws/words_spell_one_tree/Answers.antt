use Rattle.ad_grammar.proofs.UniqueLemmas.{expr-one, ad-one}
use Rattle.ad_grammar.proofs.laws.words_spell_one_tree.Goals as goal

pub returns-clause-expression : goal.returns-clause-expression
returns-clause-expression g c = expr-one g.words

pub returns-clause-ad : goal.returns-clause-ad
returns-clause-ad g c = ad-one g.words
