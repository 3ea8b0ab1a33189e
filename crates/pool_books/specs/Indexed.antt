-- What contracts see of the ads and their index.
use Rattle.std.specs.Prelude.{List}
use Rattle.ad_store.specs.Stock.{Advert}
use Rattle.ad_store.specs.Store.{stock_of}
use Rattle.pool_books.specs.declared.indexed.IndexedStore.{IndexedStore}

-- the ads in order
abbrev pub ads_of : IndexedStore → List Advert
ads_of indexed = (stock_of indexed.store).ads
