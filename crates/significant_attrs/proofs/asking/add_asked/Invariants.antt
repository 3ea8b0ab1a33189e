use Rattle.std.proofs.Common.{◌≡◌, ◌++◌, drop}
use Rattle.ad_tree.specs.Ad.{ad_frames}
use Rattle.significant_attrs.specs.Names.{asked_by}
use Rattle.significant_attrs.proofs.asking.add_asked.Given as goal

-- what was added, and what is left
abbrev pub invariant-loop-frame : goal.invariant-loop-frame
invariant-loop-frame l = l.names ++ asked_by (drop l.frame (ad_frames l.ad)) ≡ l.initial.names ++ asked_by (ad_frames l.ad)
