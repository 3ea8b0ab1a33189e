use Rattle.std.proofs.Common.{sym, ◌∙◌, arith}
use Rattle.ad_lexer.specs.declared.next.Begin.TheVariants.{Slash}
use Rattle.ad_lexer.proofs.Begins.{begin_is}
use Rattle.ad_lexer.proofs.MarkLemmas.{alone_next, alone_marked, number_unmarked, name_unmarked, string_unmarked}
use Rattle.ad_lexer.proofs.next.next.Goals as goal

pub returns-in-Some-clause-value : goal.returns-in-Some-clause-value
returns-in-Some-clause-value c = c.symbol_of.ensures.step ∙ sym (alone_next c.args.text.now c.in-Some.mark (omega arith) (sym c.alone.ensures ∙ c.in-Some.is))

pub returns-in-Some-clause-marked : goal.returns-in-Some-clause-marked
returns-in-Some-clause-marked c =
    rw (c.symbol_of.ensures.step, c.symbol_of.ensures.mark) (alone_marked c.args.text.now c.in-Some.mark (omega arith) (sym c.alone.ensures ∙ c.in-Some.is))

pub slash-requires-clause-begins : goal.slash-requires-clause-begins
slash-requires-clause-begins c = begin_is _ Slash (sym c.begin_of.ensures ∙ c.in-Slash.is)

pub returns-in-Number-clause-marked : goal.returns-in-Number-clause-marked
returns-in-Number-clause-marked c =
    rw (c.unmarked-in-Number.ensures.step, c.unmarked-in-Number.ensures.mark, c.number.ensures.value) (number_unmarked c.args.text.now)

pub returns-in-Name-clause-marked : goal.returns-in-Name-clause-marked
returns-in-Name-clause-marked c = rw (c.unmarked-in-Name.ensures.step, c.unmarked-in-Name.ensures.mark, c.name.ensures.value) (name_unmarked c.args.text.now)

pub returns-in-String-clause-marked : goal.returns-in-String-clause-marked
returns-in-String-clause-marked c =
    rw (c.unmarked-in-String.ensures.step, c.unmarked-in-String.ensures.mark, c.string.ensures.value) (string_unmarked c.args.text.now)
