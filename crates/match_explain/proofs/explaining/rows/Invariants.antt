use Rattle.std.proofs.Common.{◌≡◌, map, take}
use Rattle.ad_tree.specs.Ad.{ad_frames}
use Rattle.ad_tree.specs.Tree.{tree}
use Rattle.match_explain.specs.Counted.{rows_of}
use Rattle.match_explain.proofs.explaining.rows.Given as goal

abbrev pub invariant-loop-i : goal.invariant-loop-i
invariant-loop-i l = l.rows ≡ rows_of (ad_frames l.question.request.now.ad) (take l.i (map (λ e. tree e.now) l.question.conjuncts.items)) l.counts
