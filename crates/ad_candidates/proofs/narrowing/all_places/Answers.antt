use Rattle.std.proofs.Common.{◌≡◌, ◌+◌, ◌++◌, ◌∷◌, [], ℕ, List, ap, sym, ◌∙◌, add-one, zero-add}
use Rattle.std.specs.List.{range_with_len}
use Rattle.ad_candidates.proofs.PlaceLemmas.{range-next}
use Rattle.ad_candidates.proofs.narrowing.all_places.Goals as goal

pub loop-place-preserved : goal.loop-place-preserved
loop-place-preserved c =
    let next : range_with_len 0 (c.loop-place.place + 1) ≡ range_with_len 0 c.loop-place.place ++ c.loop-place.place ∷ [] =
    ap (range_with_len 0) (add-one c.loop-place.place) ∙ range-next 0 c.loop-place.place
    ∙ ap (λ (k : ℕ). range_with_len 0 c.loop-place.place ++ k ∷ []) (zero-add c.loop-place.place) in
    c.in_ok-push.ensures.ok ∙ ap (λ (l : List ℕ). l ++ c.loop-place.place ∷ []) c.loop-place.invariant ∙ sym next
