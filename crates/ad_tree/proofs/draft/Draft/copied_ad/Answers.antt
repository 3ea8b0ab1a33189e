use Rattle.std.proofs.Common.{◌∙◌, [], refl, sym}
use Rattle.std.proofs.lemmas.List.{length-map}
use Rattle.ad_tree.specs.Draft.{draft_frames}
use Rattle.ad_tree.specs.Table.{frame_of, frames_of}
use Rattle.ad_tree.proofs.FinishLemmas.{apart-draft, finished_is_ad, finished_root, if_ok}
use Rattle.ad_tree.proofs.WalkLemmas.{new-within}
use Rattle.ad_tree.proofs.draft.Draft.copied_ad.Goals as goal

pub place_definitions-requires : goal.place_definitions-requires
place_definitions-requires c = new-within 0 [] refl c.with_seed-copy.ensures

pub into_ad-requires : goal.into_ad-requires
into_ad-requires c =
    let draft = c.args.self.now in
    let apart = apart-draft draft.root draft.inner.items in
    finished_is_ad (draft_frames draft) apart
    (finished_root (frame_of draft.root) (frames_of draft.inner.items) apart c.len.result
    (c.len.ensures ∙ draft.inner.ok.0 ∙ sym (length-map draft.inner.items frame_of))
    (c.in_ok-place_definitions.ensures 0 [] refl c.with_seed-copy.ensures))

pub returns : goal.returns
returns c =
    let draft = c.args.self.now in
    if_ok c.into_ad.result
    (λ ad h. h ∙ finished_root (frame_of draft.root) (frames_of draft.inner.items) (apart-draft draft.root draft.inner.items) c.len.result
    (c.len.ensures ∙ draft.inner.ok.0 ∙ sym (length-map draft.inner.items frame_of))
    (c.in_ok-place_definitions.ensures 0 [] refl c.with_seed-copy.ensures))
    c.into_ad.ensures
