use Rattle.std.proofs.Common.{arith}
use Rattle.std.proofs.lemmas.Fmt.{decimal_digit}
use Rattle.ad_printer.proofs.NumberLemmas.{two_digits, three_digits}
use Rattle.ad_printer.proofs.pieces.add_small_number.Goals as goal

pub returns-then-n-lt10 : goal.returns-then-n-lt10
returns-then-n-lt10 c = rw (decimal_digit c.args.n (omega arith)) c.add_byte.ensures

pub returns-then-n-lt100 : goal.returns-then-n-lt100
returns-then-n-lt100 c = rw (two_digits c.args.n (omega arith) (omega arith)) c.add.ensures

pub returns : goal.returns
returns c = rw (three_digits c.args.n (omega arith) (omega arith)) c.add-2.ensures
