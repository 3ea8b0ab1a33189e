use Rattle.std.proofs.Common.{arith, length-drop}
use Rattle.ad_grammar.specs.Words.{words}
use Rattle.ad_grammar.proofs.WordLemmas.{words-many}
use Rattle.ad_grammar.proofs.reader.Reader.count.Goals as goal

pub returns-clause-value : goal.returns-clause-value
returns-clause-value c = omega (arith, c.len.ensures.value, words-many c.args.self.now.tokens, length-drop c.args.self.now.at (words c.args.self.now.tokens))
