use Rattle.std.proofs.Common.{◌∙◌, ap, sym, position}
use Rattle.ad_tree.specs.Names.{same_name}
use Rattle.ad_tree.specs.Frames.{attributes_in, names_of}
use Rattle.ad_tree.proofs.ad.Ad.position.Goals as goal

pub returns : goal.returns
returns c =
    c.position.ensures
    ∙ sym (ap (λ frame. position (same_name c.args.name.now) (names_of (attributes_in frame))) c.frame_at.ensures)
