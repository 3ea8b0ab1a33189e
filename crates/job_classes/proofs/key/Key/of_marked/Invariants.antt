use Rattle.std.proofs.Common.{◌≡◌, [], drop}
use Rattle.ad_tree.specs.Ad.{ad_frames}
use Rattle.ad_tree.specs.Frames.{attributes_at}
use Rattle.job_classes.specs.Keys.{arranged}
use Rattle.job_classes.specs.Shown.{marked_entries}
use Rattle.job_classes.proofs.key.Key.of_marked.Given as goal

-- the entries so far, and those of the attributes that are left
abbrev pub invariant-loop-k : goal.invariant-loop-k
invariant-loop-k l =
    arranged l.entries.items (marked_entries (ad_frames l.ad) (drop l.k l.marks) (drop l.k (attributes_at (ad_frames l.ad) 0)))
    ≡ arranged [] (marked_entries (ad_frames l.ad) l.marks (attributes_at (ad_frames l.ad) 0))
