use Rattle.std.proofs.Common.{◌≡◌, map, take}
use Rattle.pool_books.specs.Books.{queue_of}
use Rattle.pool_books.specs.Indexed.{ads_of}
use Rattle.pool_commands.specs.Ads.{ad_row}
use Rattle.pool_commands.proofs.ads.list.Given as goal

abbrev pub invariant-loop-i : goal.invariant-loop-i
invariant-loop-i l = l.rows ≡ map (ad_row (queue_of l.books)) (take l.i (ads_of l.books.ads))
