use Rattle.std.proofs.Common.{arith, ◌≡◌, ◌∙◌, ◌∷◌, ◌++◌, List, ap, append-nil, drop, length, subst, sym, take}
use Rattle.std.proofs.lemmas.List.{drop_all, take_all}
use Rattle.ad_tree.specs.Frames.{IsAd}
use Rattle.ad_tree.specs.Table.{frame_of, frames_of, table_frames}
use Rattle.ad_tree.specs.declared.frame.AdFrame.{AdFrame}
use Rattle.ad_tree.proofs.ad.Ad.from_frames.Goals as goal

pub invariant_of-result-clause-is_ad : goal.invariant_of-result-clause-is_ad
invariant_of-result-clause-is_ad c =
    let old = c.args.inner in
    let new = c.shrink-2.new.frames in
    let whole : take old.len (new ++ drop (length new) old.items) ≡ new =
    ap (λ (rest : List AdFrame). take old.len (new ++ rest))
    (drop_all (length new) old.items (omega (arith, c.shrink-2.auto.frames, ap length c.deref_mut.ensures.value)))
    ∙ ap (take old.len) (append-nil new)
    ∙ take_all old.len new (omega (arith, c.shrink-2.auto.frames, ap length c.deref_mut.ensures.value, old.ok.0)) in
    let inner : frames_of c.shrink_to_fit.new.self.items ≡ frames_of old.items =
    ap frames_of (c.shrink_to_fit.ensures.items ∙ whole) ∙ c.shrink-2.ensures ∙ ap frames_of c.deref_mut.ensures.value in
    subst IsAd (
    sym (
    ap table_frames c.in_ok-new.ensures.ok
    ∙ c.new-frames.ensures.frames
    ∙ ap (λ root. root ∷ frames_of c.shrink_to_fit.new.self.items) c.shrink.ensures
    ∙ ap (λ rest. frame_of c.args.root ∷ rest) inner
    )
    ) c.requires.is_ad
