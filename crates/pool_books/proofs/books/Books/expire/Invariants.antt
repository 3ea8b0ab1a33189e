use Rattle.std.proofs.Common.{◌≡◌, ◌+◌, ◌≤◌, drop, length}
use Rattle.ad_store.specs.Stock.{expired_slots}
use Rattle.ad_store.specs.Store.{stock_of}
use Rattle.pool_books.specs.Books.{queue_of}
use Rattle.pool_books.specs.Expiry.{has_expired, live_ads}
use Rattle.pool_books.specs.Indexed.{ads_of}
use Rattle.pool_books.specs.Queue.{without_resources}
use Rattle.pool_books.proofs.books.Books.expire.Given as goal

abbrev pub invariant-loop-slot : goal.invariant-loop-slot
invariant-loop-slot g l = record {
  left : expired_slots l.now (stock_of l.self.ads.store) ≡ drop l.slot-index l.slot-items;
  live : live_ads l.now (ads_of l.self.ads) ≡ live_ads l.now (ads_of l.initial.self.ads);
  jobs : without_resources (has_expired l.now (ads_of l.self.ads)) (queue_of l.self)
      ≡ without_resources (has_expired l.now (ads_of l.initial.self.ads)) (queue_of l.initial.self);
  looks : l.touch + length (ads_of l.self.ads) ≤ l.initial.touch + length (ads_of l.initial.self.ads);
  fewer : length (ads_of l.self.ads) ≤ length (ads_of l.initial.self.ads);
}
