use Rattle.std.proofs.Common.{◌≡◌}
use Rattle.ad_tree.specs.Table.{frames_of}
use Rattle.ad_tree.proofs.ad.shrink.Given as goal

abbrev pub invariant-loop-i : goal.invariant-loop-i
invariant-loop-i l = frames_of l.frames ≡ frames_of l.initial.frames
