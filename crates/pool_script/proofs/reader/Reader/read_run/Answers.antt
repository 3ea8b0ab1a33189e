use Rattle.std.proofs.Common.{◌≡◌, length, refl, arith}
use Rattle.std.proofs.lemmas.Bool.Decides.{nat_tests}
use Rattle.std.proofs.lemmas.List.{nil_from_length}
use Rattle.pool_script.proofs.RunLemmas.{run_read, run_sound}
use Rattle.pool_script.proofs.reader.Reader.read_run.Goals as goal

pub returns-in-Some-clause-sound : goal.returns-in-Some-clause-sound
returns-in-Some-clause-sound c =
    let h = c.lengthen_by_run.ensures in
    run_sound c.lengthen_by_run.result c.args.self.now _ c.in-Some.block c.lengthen_by_run.new.block c.args.piece.now c.requires c.in-Some.is h.ok h.err refl
    refl refl

pub returns-in-Some-clause-ok : goal.returns-in-Some-clause-ok
returns-in-Some-clause-ok c =
    let h = c.lengthen_by_run.ensures in
    let empty = c.if-is_empty.ensures in
    let counted = c.args.self.now.line.ok.0 in
    let none : length c.args.self.now.line.items ≡ 0 = grind (arith, nat_tests) in
    run_read c.lengthen_by_run.result c.args.self.now _ c.in-Some.block c.lengthen_by_run.new.block c.args.piece.now c.in-Some.is
    (nil_from_length c.args.self.now.line.items none) h.ok h.left refl refl refl
