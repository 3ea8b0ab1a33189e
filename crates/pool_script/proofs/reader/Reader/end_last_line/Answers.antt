use Rattle.std.proofs.Common.{◌<◌, length, arith}
use Rattle.std.proofs.lemmas.Bool.Decides.{nat_tests}
use Rattle.pool_script.proofs.ReaderLemmas.{end_with_line}
use Rattle.pool_script.proofs.reader.Reader.end_last_line.Goals as goal

pub returns-clause-ok : goal.returns-clause-ok
returns-clause-ok c =
    let empty = c.if-is_empty.ensures in
    let counted = c.args.self.now.line.ok.0 in
    let some : 0 < length c.args.self.now.line.items = grind (arith, nat_tests) in
    let h = c.in_ok-end_line.ensures in end_with_line c.args.self.now c.end_line.new.self c.requires some h.ok h.line
