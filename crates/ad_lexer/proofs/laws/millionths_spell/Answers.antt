use Rattle.ad_lexer.proofs.MillionthLemmas.{size_text_decimal}
use Rattle.ad_lexer.proofs.laws.millionths_spell.Goals as goal

pub returns-clause-spells : goal.returns-clause-spells
returns-clause-spells c = (size_text_decimal c.args.number c.requires).0

pub returns-clause-value : goal.returns-clause-value
returns-clause-value c = (size_text_decimal c.args.number c.requires).1
