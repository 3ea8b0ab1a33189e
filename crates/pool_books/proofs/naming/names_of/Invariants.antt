use Rattle.std.proofs.Common.{◌≡◌, map, take}
use Rattle.ad_store.specs.Store.{stock_of}
use Rattle.pool_books.specs.Books.{name_in}
use Rattle.pool_books.proofs.naming.names_of.Given as goal

abbrev pub invariant-loop-slot : goal.invariant-loop-slot
invariant-loop-slot l = l.names ≡ map (name_in (stock_of l.store)) (take l.slot-index l.slots)
