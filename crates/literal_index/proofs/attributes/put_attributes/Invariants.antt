use Rattle.ad_tree.specs.Ad.{ad_frames}
use Rattle.ad_tree.specs.Frames.{attributes_at}
use Rattle.literal_index.specs.Changes.{HasPut}
use Rattle.literal_index.proofs.attributes.put_attributes.Given as goal

abbrev pub invariant-loop-attr : goal.invariant-loop-attr
invariant-loop-attr l = HasPut l.attr l.slot (attributes_at (ad_frames l.ad) 0) l.initial.entries l.entries
