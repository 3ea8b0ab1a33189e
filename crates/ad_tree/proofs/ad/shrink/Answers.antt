use Rattle.std.proofs.Common.{◌∙◌}
use Rattle.std.proofs.Math.Seq.{map-set_same}
use Rattle.ad_tree.specs.Table.{frame_of}
use Rattle.ad_tree.proofs.ad.shrink.Goals as goal

pub loop-i-preserved : goal.loop-i-preserved
loop-i-preserved c =
    map-set_same frame_of c.loop-i.frames c.loop-i.i c.shrink.new.self c.index-frames-i.result c.shrink.ensures
    ∙ c.loop-i.invariant
