use Rattle.std.proofs.Common.{◌≡◌, length}
use Rattle.pool_script.proofs.LinesLemmas.{Leaves}
use Rattle.pool_script.proofs.lines.Lines.feed.Given as goal

abbrev pub invariant-loop-line : goal.invariant-loop-line
invariant-loop-line l = record {
  over : l.self.over ≡ l.initial.self.over;
  leaves : Leaves l.initial.self l.piece l.self l.left;
}

abbrev pub decreases-loop-line : goal.decreases-loop-line
decreases-loop-line l = length l.left
