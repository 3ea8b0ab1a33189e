use Rattle.std.proofs.Common.{◌≡◌, ◌∷◌, ◌++◌, [], ℕ, List, get_or, map, take, ap, sym, ◌∙◌}
use Rattle.std.proofs.lemmas.List.{map_more}
use Rattle.std.proofs.lemmas.Option.{get_or_from_slice_get}
use Rattle.ad_store.specs.Store.{stock_of}
use Rattle.dock_match.specs.Pool.{slot_at}
use Rattle.gang_ports.proofs.gangs.slots_at.Goals as goal

pub loop-place-preserved : goal.loop-place-preserved
loop-place-preserved c =
    let stock = stock_of c.args.store.now in
    let places = c.args.places.now in
    let i = c.loop-place.place-index in
    let slot : c.at.result ≡ slot_at stock (get_or places i 0) =
    sym (get_or_from_slice_get stock.slots (get_or places i 0) c.at.result 0 c.at.ensures.place) in
    c.in_ok-push.ensures.ok
    ∙ ap (λ (slots : List ℕ). slots ++ c.at.result ∷ []) c.loop-place.invariant
    ∙ ap (λ (s : ℕ). map (slot_at stock) (take i places) ++ s ∷ []) slot
    ∙ sym (map_more (slot_at stock) places i 0 c.loop-place-test.true)
