use Rattle.pool_text.proofs.NumberLemmas.{number_of-decimal, number_of-only}
use Rattle.pool_text.proofs.laws.number_is_its_decimal_text.Goals as goal

pub returns-clause-reads : goal.returns-clause-reads
returns-clause-reads c = number_of-decimal c.args.number c.ranges.number.fits

pub returns-clause-only : goal.returns-clause-only
returns-clause-only c is = number_of-only c.args.bytes.now c.args.number is
