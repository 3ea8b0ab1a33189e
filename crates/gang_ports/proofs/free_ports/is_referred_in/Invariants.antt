use Rattle.std.proofs.Common.{◌≡◌, drop}
use Rattle.std.specs.List.{list_any}
use Rattle.ad_tree.specs.Ad.{ad_frames}
use Rattle.ad_tree.specs.Frames.{attributes_at}
use Rattle.gang_ports.specs.FreePorts.{refers}
use Rattle.gang_ports.proofs.free_ports.is_referred_in.Given as goal

-- the attributes so far don't have the label
abbrev pub invariant-loop-attr : goal.invariant-loop-attr
invariant-loop-attr l =
    list_any (λ a. refers l.label a.1) (drop l.attr (attributes_at (ad_frames l.ad) l.frame))
    ≡ list_any (λ a. refers l.label a.1) (attributes_at (ad_frames l.ad) l.frame)
