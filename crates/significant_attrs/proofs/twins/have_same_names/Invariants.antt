use Rattle.ad_tree.specs.Ad.{ad_frames}
use Rattle.significant_attrs.proofs.CompareLemmas.{AreNamesSame}
use Rattle.significant_attrs.proofs.twins.have_same_names.Given as goal

abbrev pub invariant-loop-k : goal.invariant-loop-k
invariant-loop-k l = AreNamesSame (ad_frames l.one) (ad_frames l.other) l.k
