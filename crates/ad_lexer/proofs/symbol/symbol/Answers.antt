use Rattle.std.proofs.Common.{◌≤◌, length, ap, ◌∙◌, arith}
use Rattle.ad_lexer.specs.Marks.{marks, meaning_of}
use Rattle.ad_lexer.proofs.MarkLemmas.{first_three}
use Rattle.ad_lexer.proofs.symbol.symbol.Goals as goal

pub returns-in-Some-clause-marked : goal.returns-in-Some-clause-marked
returns-in-Some-clause-marked c =
    let fits : c.in-Some.len ≤ length c.args.text.now =
    grind (arith, c.in-Some.ensures.within, c.byte_at-second.ensures.within, c.byte_at.ensures.within, c.requires.some) in
    let here = first_three c.args.text.now c.in-Some.len c.in-Some.ensures.within.1 fits in
    rw (c.symbol_of.ensures.step, c.symbol_of.ensures.mark)
    (c.in-Some.ensures.value.1 ∙ rw (c.byte_at-second.ensures.value, c.byte_at.ensures.value) (ap (meaning_of marks) here))
