use Rattle.std.proofs.Common.{arith, ap, sym}
use Rattle.ad_grammar.specs.HeldMarks.{front_mark}
use Rattle.ad_grammar.proofs.WordLemmas.{mark-at, none-behind}
use Rattle.ad_grammar.proofs.reader.Reader.mark.Goals as goal

pub returns-then-self-len : goal.returns-then-self-len
returns-then-self-len c = mark-at c.args.self.now.tokens c.args.self.now.at c.mark.result c.mark.ensures

pub returns-else-self-len : goal.returns-else-self-len
returns-else-self-len c = sym (ap front_mark (none-behind c.args.self.now.tokens c.args.self.now.at (omega (arith, c.if-self-len.false, c.len.ensures.value))))
