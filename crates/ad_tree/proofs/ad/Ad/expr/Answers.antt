use Rattle.std.proofs.Common.{◌<◌, ◌∙◌, ap, length, option_map, slice_get, subst}
use Rattle.ad_tree.specs.Frames.{attributes_in}
use Rattle.ad_tree.proofs.ad.Ad.expr.Goals as goal

pub at-requires : goal.at-requires
at-requires c = subst (λ frame. c.args.attr < length (attributes_in frame)) c.frame_at.ensures c.requires.attr

pub returns : goal.returns
returns c =
    ap (λ frame. option_map (λ a. a.1) (slice_get (attributes_in frame) c.args.attr)) c.frame_at.ensures
    ∙ ap (option_map (λ a. a.1)) c.at.ensures
