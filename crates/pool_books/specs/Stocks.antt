-- Ads beside their slots: without those of a name, and as hits.
use Rattle.std.specs.Prelude.{ℕ, List}
use Rattle.ad_store.specs.Stock.{Stock, slots_without, without}

-- the ads and slots without those of a name
abbrev pub stock_without : List ℕ → Stock → Stock
stock_without name stock = record { ads = without name stock.ads; slots = slots_without name stock.ads stock.slots }
