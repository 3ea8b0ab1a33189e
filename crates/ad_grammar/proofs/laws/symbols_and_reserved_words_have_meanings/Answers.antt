use Rattle.ad_grammar.proofs.TableLemmas.{symbol-mark, reserved-meaning}
use Rattle.ad_grammar.proofs.laws.symbols_and_reserved_words_have_meanings.Goals as goal

pub returns-clause-symbol : goal.returns-clause-symbol
returns-clause-symbol c = symbol-mark c.args.bytes.now

pub returns-clause-reserved_word : goal.returns-clause-reserved_word
returns-clause-reserved_word c = reserved-meaning c.args.bytes.now
