use Rattle.std.proofs.Common.{◌≡◌, ◌++◌, drop}
use Rattle.ad_tree.specs.Ad.{ad_frames}
use Rattle.ad_tree.specs.Frames.{attributes_at}
use Rattle.significant_attrs.specs.Marking.{first_attributes}
use Rattle.significant_attrs.specs.Shown.{names_in}
use Rattle.significant_attrs.proofs.marking.first_names.Given as goal

-- the names so far, and those of the attributes that are left
abbrev pub invariant-loop-k : goal.invariant-loop-k
invariant-loop-k l =
    l.names ++ first_attributes (names_in l.reach) (drop l.k (attributes_at (ad_frames l.ad) 0))
    ≡ first_attributes (names_in l.reach) (attributes_at (ad_frames l.ad) 0)
