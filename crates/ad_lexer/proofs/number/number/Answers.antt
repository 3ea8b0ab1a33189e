use Rattle.ad_lexer.specs.declared.next.Begin.TheVariants.{Number}
use Rattle.ad_lexer.proofs.Begins.{begin_is}
use Rattle.ad_lexer.proofs.number.number.Goals as goal

pub is_whole-requires-clause-digit : goal.is_whole-requires-clause-digit
is_whole-requires-clause-digit c = begin_is _ Number c.requires.digit
