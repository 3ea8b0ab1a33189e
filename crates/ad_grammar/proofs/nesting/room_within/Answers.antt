use Rattle.std.proofs.Common.{arith}
use Rattle.ad_grammar.proofs.NestingLemmas.{few-openings}
use Rattle.ad_grammar.proofs.nesting.room_within.Goals as goal

pub returns-then-openings-le-NESTING_LIMIT-clause-some : goal.returns-then-openings-le-NESTING_LIMIT-clause-some
returns-then-openings-le-NESTING_LIMIT-clause-some c = λ is.
    few-openings c.args.tokens.now (omega (arith, c.openings.ensures, c.if-openings-le-NESTING_LIMIT.true))
