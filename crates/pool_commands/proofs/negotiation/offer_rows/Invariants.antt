use Rattle.std.proofs.Common.{◌≡◌, map, take}
use Rattle.ad_store.specs.Store.{stock_of}
use Rattle.pool_books.specs.Rows.{offer_row}
use Rattle.pool_commands.proofs.negotiation.offer_rows.Given as goal

abbrev pub invariant-loop-i : goal.invariant-loop-i
invariant-loop-i l = l.list ≡ map (offer_row (stock_of l.store)) (take l.i l.offers)
