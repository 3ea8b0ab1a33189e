use Rattle.std.proofs.Common.{◌≡◌, take}
use Rattle.match_explain.specs.Counted.{counted}
use Rattle.match_explain.proofs.counting.count.Given as goal

abbrev pub invariant-loop-i : goal.invariant-loop-i
invariant-loop-i l = l.counts ≡ counted (take l.i l.truths) l.initial.counts
