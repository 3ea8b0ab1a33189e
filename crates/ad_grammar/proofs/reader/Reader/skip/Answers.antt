use Rattle.std.proofs.Common.{arith, ap, sym, drop, ◌∙◌}
use Rattle.ad_grammar.specs.Words.{words}
use Rattle.ad_grammar.proofs.WordLemmas.{drop-next, none-behind}
use Rattle.ad_grammar.proofs.reader.Reader.skip.Goals as goal

pub returns-then-self-len : goal.returns-then-self-len
returns-then-self-len c = drop-next (words c.args.self.now.tokens) c.args.self.now.at

pub returns-else-self-len : goal.returns-else-self-len
returns-else-self-len c =
    let none = none-behind c.args.self.now.tokens c.args.self.now.at (omega (arith, c.if-self-len.false, c.len.ensures.value)) in
    none ∙ sym (ap (drop 1) none)
