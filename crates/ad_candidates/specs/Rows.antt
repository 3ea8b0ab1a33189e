-- The rows of a store, as an index has them.
use Rattle.std.specs.Prelude.{ℕ, List, [], ◌∷◌}
use Rattle.ad_store.specs.Stock.{Advert, Stock}
use Rattle.literal_index.specs.Rows.{Row, row_of}

-- the ads, each under its slot, as an index has them
abbrev pub rows_beside : List Advert → List ℕ → List Row
rows_beside (advert ∷ ads) (slot ∷ slots) = row_of slot advert.ad ∷ rows_beside ads slots
rows_beside ads slots = []

-- the rows of what is held: the index of a pool is that of these
abbrev pub rows_of : Stock → List Row
rows_of stock = rows_beside stock.ads stock.slots
