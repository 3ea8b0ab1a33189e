use Rattle.std.proofs.Common.{◌≡◌, None, arith}
use Rattle.std.proofs.lemmas.Bool.Decides.{nat_tests}
use Rattle.pool_script.specs.Commands.{next, takes_block}
use Rattle.pool_script.specs.Reading.{kept_next}
use Rattle.pool_script.proofs.ReaderLemmas.{anyway}
use Rattle.pool_script.proofs.reader.Reader.read_outside.Goals as goal

pub returns-then-line-gt-LONGEST_LINE-clause-ok_block : goal.returns-then-line-gt-LONGEST_LINE-clause-ok_block
unfolding kept_next next takes_block
returns-then-line-gt-LONGEST_LINE-clause-ok_block c =
    let none : c.args.self.now.block ≡ kept_next None c.args.line.now = grind (arith, nat_tests) in
    anyway c.refuse_line.result none
