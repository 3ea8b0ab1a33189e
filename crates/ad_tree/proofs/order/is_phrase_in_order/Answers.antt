use Rattle.std.proofs.Common.{refl}
use Rattle.ad_tree.specs.Tree.{tree}
use Rattle.ad_tree.specs.Draft.{draft_frames}
use Rattle.ad_tree.proofs.FinishLemmas.{apart-draft}
use Rattle.ad_tree.proofs.OrderLemmas.{phrase-in_order}
use Rattle.ad_tree.proofs.order.is_phrase_in_order.Goals as goal

pub returns-clause-frames : goal.returns-clause-frames
returns-clause-frames c =
    λ ends.
    (phrase-in_order (draft_frames c.args.draft.now) (apart-draft c.args.draft.now.root c.args.draft.now.inner.items) c.count.result c.count.ensures
    (tree c.args.expr.now) refl c.follow-after.result (c.is_end.ensures ends) c.follow-after.ensures).0
