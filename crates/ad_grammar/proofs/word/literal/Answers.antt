use Rattle.ad_lexer.proofs.ContentLemmas.{less_when}
use Rattle.ad_grammar.proofs.WordLemmas.{decimal-fits, integer-fits}
use Rattle.ad_grammar.proofs.word.literal.Goals as goal

pub integer-requires : goal.integer-requires
integer-requires c = less_when _ _ c.requires (λ spells. integer-fits c.args.token.now.kind c.args.token.now.text.now c.in-Int.is spells)

pub decimal-requires-clause-dot : goal.decimal-requires-clause-dot
decimal-requires-clause-dot c = less_when _ _ c.requires (λ spells. (decimal-fits c.args.token.now.kind c.args.token.now.text.now c.in-Dec.is spells).0)

pub decimal-requires-clause-fits : goal.decimal-requires-clause-fits
decimal-requires-clause-fits c = less_when _ _ c.requires (λ spells. (decimal-fits c.args.token.now.kind c.args.token.now.text.now c.in-Dec.is spells).1)
