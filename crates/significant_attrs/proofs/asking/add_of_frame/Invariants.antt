use Rattle.std.proofs.Common.{◌≡◌, ◌++◌, drop}
use Rattle.ad_tree.specs.Ad.{ad_frames}
use Rattle.ad_tree.specs.Frames.{attributes_at}
use Rattle.significant_attrs.specs.Names.{asked_in_attributes}
use Rattle.significant_attrs.proofs.asking.add_of_frame.Given as goal

-- what was added, and what is left
abbrev pub invariant-loop-attr : goal.invariant-loop-attr
invariant-loop-attr l =
    l.names ++ asked_in_attributes (drop l.attr (attributes_at (ad_frames l.ad) l.frame))
    ≡ l.initial.names ++ asked_in_attributes (attributes_at (ad_frames l.ad) l.frame)
