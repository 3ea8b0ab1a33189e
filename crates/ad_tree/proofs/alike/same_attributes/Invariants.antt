use Rattle.std.proofs.Common.{◌≡◌, take}
use Rattle.ad_tree.specs.Ad.{ad_frames}
use Rattle.ad_tree.specs.Frames.{attributes_at}
use Rattle.ad_tree.proofs.alike.same_attributes.Given as goal

abbrev pub invariant-loop-k : goal.invariant-loop-k
invariant-loop-k l = take l.k (attributes_at (ad_frames l.a) l.frame) ≡ take l.k (attributes_at (ad_frames l.b) l.frame)
