use Rattle.std.proofs.Common.{◌≡◌, ◌++◌, ◌≤◌, ℕ, List, [], length, ◌∙◌, ap, arith}
use Rattle.std.proofs.lemmas.Bool.Decides.{nat_tests}
use Rattle.std.proofs.lemmas.List.{nil_from_length}
use Rattle.pool_script.proofs.ReaderLemmas.{line_end_read, line_end_sound}
use Rattle.pool_script.proofs.reader.Reader.read_ended.Goals as goal

-- no line has begun
nothing_begun : (c : goal.After-read_line) → c.args.self.now.line.items ≡ []
nothing_begun c =
    let empty = c.if-is_empty.ensures in
    let counted = c.args.self.now.line.ok.0 in
    let none : length c.args.self.now.line.items ≡ 0 = grind (arith, nat_tests) in
    nil_from_length c.args.self.now.line.items none

pub returns-then-bytes-le-LONGEST_LINE-clause-sound : goal.returns-then-bytes-le-LONGEST_LINE-clause-sound
returns-then-bytes-le-LONGEST_LINE-clause-sound c =
    let h = c.read_line.ensures in
    let fits : length c.args.bytes.now ≤ 65537 = grind (arith, nat_tests) in
    line_end_sound c.read_line.result c.args.self.now c.read_line.new.self c.args.bytes.now c.requires.sound c.requires.one_line fits h.ok_waiting h.ok_block
    h.err_waiting h.err_block (h.line ∙ nothing_begun c)

pub returns-then-bytes-le-LONGEST_LINE-clause-ok : goal.returns-then-bytes-le-LONGEST_LINE-clause-ok
returns-then-bytes-le-LONGEST_LINE-clause-ok c =
    let h = c.read_line.ensures in
    let ends = ap (λ (l : List ℕ). l ++ c.args.with_feed.now) (nothing_begun c) ∙ c.requires.feed in
    line_end_read c.read_line.result c.args.self.now c.read_line.new.self c.args.bytes.now c.args.with_feed.now c.requires.one_line ends h.ok_waiting h.ok_block
    (h.line ∙ nothing_begun c)
