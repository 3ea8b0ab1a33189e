use Rattle.ad_tree.specs.Ad.{ad_frames}
use Rattle.significant_attrs.proofs.CompareLemmas.{AreMarkedSame}
use Rattle.significant_attrs.proofs.twins.have_same_exprs.Given as goal

abbrev pub invariant-loop-k : goal.invariant-loop-k
invariant-loop-k l = AreMarkedSame (ad_frames l.one) (ad_frames l.other) l.marks l.k
