-- What contracts see of an ad.
use Rattle.std.specs.Prelude.{List}
use Rattle.ad_tree.specs.declared.ad.Ad.{Ad}
use Rattle.ad_tree.specs.Frames.{Frame}
use Rattle.ad_tree.specs.Table.{table_frames}

-- the frames of an ad; equal ads are those whose frames are equal
abbrev pub ad_frames : Ad → List Frame
ad_frames ad = table_frames ad.frames.value
