use Rattle.std.proofs.Common.{sym, ◌∙◌, arith}
use Rattle.std.proofs.lemmas.Bool.{leb-true, ltb-true}
use Rattle.ad_lexer.proofs.DecimalLemmas.{short_integer, short_hexadecimal}
use Rattle.ad_lexer.proofs.number.is_short.Goals as goal

pub returns-then-len-le-SHORT_DIGITS : goal.returns-then-len-le-SHORT_DIGITS
returns-then-len-le-SHORT_DIGITS c is =
    short_integer c.args.text.now c.args.len c.requires.number c.requires.integer c.requires.some (omega arith)
    (omega (arith, ltb-true 48 c.byte_at.result is, c.byte_at.ensures.value))

pub returns-then-len-gt2 : goal.returns-then-len-gt2
returns-then-len-gt2 c is =
    short_hexadecimal c.args.text.now c.args.len (sym c.is_hexadecimal.ensures ∙ c.if-is_hexadecimal.true) c.requires.number (omega arith) (leb-true _ 17 is)
