use Rattle.ad_parser.proofs.KeptLemmas.{spelled_expr-made, spelled_ad-made}
use Rattle.ad_parser.proofs.laws.texts_spell_parsed_trees.Goals as goal

pub returns-clause-expression : goal.returns-clause-expression
returns-clause-expression c = spelled_expr-made c.args.text.now

pub returns-clause-ad : goal.returns-clause-ad
returns-clause-ad c = spelled_ad-made c.args.text.now
