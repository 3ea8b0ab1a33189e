use Rattle.std.proofs.Common.{sym, ◌∙◌}
use Rattle.ad_store.specs.Store.{stock_of}
use Rattle.ad_candidates.specs.Rows.{rows_of}
use Rattle.ad_candidates.proofs.PlaceLemmas.{hits-held, left-places}
use Rattle.ad_candidates.proofs.narrowing.Lookup.places.Goals as goal

pub places_of-requires : goal.places_of-requires
places_of-requires c =
    let stock = stock_of c.args.store.now in
    hits-held c.args.self stock.ads stock.slots c.in_ok-slots.slots (c.in_ok-slots.ensures (rows_of stock) c.requires.index)

pub returns : goal.returns
returns c =
    let stock = stock_of c.args.store.now in
    left-places stock.ads stock.slots (sym c.len-len.ensures.ads ∙ c.len-len.ensures.slots) c.slots_are_apart.ensures c.args.self c.in_ok-slots.slots
    c.in_ok-places_of.field-0
    (c.in_ok-slots.ensures (rows_of stock) c.requires.index) c.in_ok-places_of.ensures
