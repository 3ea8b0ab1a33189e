use Rattle.ad_tree.specs.Draft.{draft_frames}
use Rattle.ad_tree.proofs.FinishLemmas.{apart-draft}
use Rattle.ad_tree.proofs.OrderLemmas.{draft-in_order}
use Rattle.ad_tree.proofs.order.is_in_order.Goals as goal

pub returns : goal.returns
returns c =
    λ ends.
    draft-in_order (draft_frames c.args.draft.now) (apart-draft c.args.draft.now.root c.args.draft.now.inner.items) c.count.result c.count.ensures
    c.follow_frame-after.result (c.is_end.ensures ends) c.follow_frame-after.ensures
