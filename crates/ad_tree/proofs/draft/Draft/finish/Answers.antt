use Rattle.std.proofs.Common.{◌∙◌}
use Rattle.ad_tree.specs.Draft.{draft_frames}
use Rattle.ad_tree.proofs.FinishLemmas.{apart-draft, finished_is_ad, if_ok}
use Rattle.ad_tree.proofs.draft.Draft.finish.Goals as goal

pub into_ad-requires : goal.into_ad-requires
into_ad-requires c =
    finished_is_ad (draft_frames c.args.self) (apart-draft c.args.self.root c.args.self.inner.items) (c.is_in_order.ensures c.if-is_in_order.true)

pub returns-then-is_in_order : goal.returns-then-is_in_order
returns-then-is_in_order c = if_ok c.into_ad.result (λ ad h. h ∙ c.is_in_order.ensures c.if-is_in_order.true) c.into_ad.ensures
