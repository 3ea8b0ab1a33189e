use Rattle.std.proofs.Common.{sym}
use Rattle.ad_tree.specs.Ad.{ad_frames}
use Rattle.ad_tree.proofs.DraftLemmas.{parent-read}
use Rattle.ad_tree.proofs.ad.Ad.parent.Goals as goal

pub returns-else-frame-eq0-clause-parent : goal.returns-else-frame-eq0-clause-parent
returns-else-frame-eq0-clause-parent c =
    sym (parent-read (ad_frames c.args.self.now) c.args.frame c.frame_at.result.now c.if-frame-eq0.false c.frame_at.ensures)

pub returns-else-frame-eq0-clause-lower : goal.returns-else-frame-eq0-clause-lower
returns-else-frame-eq0-clause-lower c =
    c.args.self.now.is_ad.lower c.args.frame c.frame_at.result.now.parent
    (parent-read (ad_frames c.args.self.now) c.args.frame c.frame_at.result.now c.if-frame-eq0.false c.frame_at.ensures)
