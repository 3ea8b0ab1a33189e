use Rattle.std.proofs.Common.{◌∙◌, sym, arith}
use Rattle.pool_text.proofs.NumberLemmas.{number_of-is}
use Rattle.pool_text.proofs.number.read_number.Goals as goal

pub returns : goal.returns
returns c = c.read_digits.ensures ∙ sym (number_of-is c.args.bytes.now (omega arith) (λ zero. grind arith))
