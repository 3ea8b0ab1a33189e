use Rattle.ad_tree.specs.Ad.{ad_frames}
use Rattle.significant_attrs.proofs.CompareLemmas.{AreFramesSame}
use Rattle.significant_attrs.proofs.twins.are_twins.Given as goal

abbrev pub invariant-loop-frame : goal.invariant-loop-frame
invariant-loop-frame l = AreFramesSame (ad_frames l.one) (ad_frames l.other) l.frame
