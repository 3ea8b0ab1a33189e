use Rattle.std.proofs.Common.{◌≡◌, drop}
use Rattle.ad_tree.specs.Ad.{ad_frames}
use Rattle.gang_ports.specs.FreePorts.{is_referred}
use Rattle.gang_ports.proofs.free_ports.is_referred.Given as goal

-- the frames so far don't have the label
abbrev pub invariant-loop-frame : goal.invariant-loop-frame
invariant-loop-frame l = is_referred (drop l.frame (ad_frames l.ad)) l.label ≡ is_referred (ad_frames l.ad) l.label
