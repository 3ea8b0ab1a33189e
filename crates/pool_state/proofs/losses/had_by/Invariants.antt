use Rattle.std.proofs.Common.{◌≡◌, ◌<◌, All, length, map, take}
use Rattle.ad_store.specs.Store.{stock_of}
use Rattle.claim_table.specs.Table.{jobs_of}
use Rattle.pool_books.specs.Books.{queue_of, name_in}
use Rattle.pool_state.specs.Notices.{had_by}
use Rattle.pool_state.proofs.losses.had_by.Given as goal

abbrev pub invariant-loop-slot : goal.invariant-loop-slot
invariant-loop-slot l = record {
  places : l.places.list ≡ had_by (queue_of l.books) (map (name_in (stock_of l.books.ads.store)) (take l.slot-index l.slots));
  within : All (λ i. i < length (jobs_of l.books.claims)) l.places.list;
}
