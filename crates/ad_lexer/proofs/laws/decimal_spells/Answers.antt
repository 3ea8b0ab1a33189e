use Rattle.ad_lexer.proofs.DecimalLemmas.{decimal_integer}
use Rattle.ad_lexer.proofs.laws.decimal_spells.Goals as goal

pub returns-clause-spells : goal.returns-clause-spells
returns-clause-spells c = (decimal_integer c.args.number c.requires).0

pub returns-clause-value : goal.returns-clause-value
returns-clause-value c = (decimal_integer c.args.number c.requires).1
