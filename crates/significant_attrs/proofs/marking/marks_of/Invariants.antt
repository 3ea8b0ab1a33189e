use Rattle.std.proofs.Common.{◌+◌, ◌-◌, length}
use Rattle.ad_tree.specs.Ad.{ad_frames}
use Rattle.ad_tree.specs.Frames.{attributes_at}
use Rattle.significant_attrs.specs.Marking.{pending}
use Rattle.significant_attrs.specs.Shown.{names_in}
use Rattle.significant_attrs.proofs.MarkLemmas.{IsMarking}
use Rattle.significant_attrs.proofs.marking.marks_of.Given as goal

abbrev pub invariant-loop-i : goal.invariant-loop-i
invariant-loop-i l = IsMarking (names_in l.reach) (ad_frames l.ad) l.names l.i l.marks.items

-- the names that wait, and those that may still come to wait
abbrev pub decreases-loop-i : goal.decreases-loop-i
decreases-loop-i l = (length l.names - l.i) + pending (ad_frames l.ad) l.marks.items (attributes_at (ad_frames l.ad) 0)
