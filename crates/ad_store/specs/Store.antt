-- What contracts see of a store.
use Rattle.ad_store.specs.declared.store.Store.{Store}
use Rattle.ad_store.specs.Stock.{Stock}
use Rattle.ad_store.specs.Held.{adverts}

-- the ads and their slots, side by side
abbrev pub stock_of : Store → Stock
stock_of store = record { ads = adverts store.table store.order; slots = store.order }
