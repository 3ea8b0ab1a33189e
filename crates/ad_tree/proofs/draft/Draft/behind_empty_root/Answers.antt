use Rattle.std.proofs.Common.{◌∙◌, ap, ◌∷◌, subst, sym}
use Rattle.ad_tree.specs.Frames.{IsAd}
use Rattle.ad_tree.specs.Table.{frames_of}
use Rattle.ad_tree.proofs.FinishLemmas.{if_ok}
use Rattle.ad_tree.proofs.draft.Draft.behind_empty_root.Goals as goal

pub from_frames-requires-clause-is_ad : goal.from_frames-requires-clause-is_ad
from_frames-requires-clause-is_ad c = subst IsAd (ap (λ root. root ∷ frames_of c.args.self.inner.items) (sym c.new-root.ensures)) c.requires

pub returns : goal.returns
returns c = if_ok c.from_frames.result (λ ad h. h ∙ ap (λ root. root ∷ frames_of c.args.self.inner.items) c.new-root.ensures) c.from_frames.ensures
