use Rattle.std.proofs.Common.{◌∙◌, ap, sym, length}
use Rattle.ad_tree.specs.Frames.{attributes_in}
use Rattle.ad_tree.proofs.ad.Ad.count.Goals as goal

pub returns : goal.returns
returns c = c.count.ensures ∙ sym (ap (λ frame. length (attributes_in frame)) c.frame_at.ensures)
