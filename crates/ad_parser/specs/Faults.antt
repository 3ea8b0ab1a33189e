-- How the faults of the steps are told.
use Rattle.ad_lexer.specs.declared.fault.LexFault.{LexFault}
use Rattle.ad_lexer.specs.declared.fault.LexFault.TheVariants as lexical
use Rattle.ad_parser.specs.declared.fault.ParseFault.{ParseFault}
use Rattle.ad_parser.specs.declared.fault.ParseFault.TheVariants as faults
use Rattle.ad_grammar.specs.declared.stop.Stop.{Stop}
use Rattle.ad_grammar.specs.declared.stop.Stop.TheVariants as stops

abbrev pub of_lexical : LexFault → ParseFault
of_lexical (lexical.At kind place) = faults.Lex kind place
of_lexical lexical.OutOfMemory = faults.OutOfMemory

abbrev pub of_stop : Stop → ParseFault
of_stop stops.Grammar = faults.Grammar
of_stop stops.OutOfMemory = faults.OutOfMemory
