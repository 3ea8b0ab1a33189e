use Rattle.std.proofs.Common.{◌≡◌, map, take}
use Rattle.match_explain.proofs.counting.zeros.Given as goal

abbrev pub invariant-loop-conjunct : goal.invariant-loop-conjunct
invariant-loop-conjunct l = l.counts.items ≡ map (λ e. 0) (take l._conjunct-index l.conjuncts)
