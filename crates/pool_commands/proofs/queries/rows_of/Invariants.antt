use Rattle.std.proofs.Common.{◌≡◌, List, map, take}
use Rattle.ad_store.specs.Store.{stock_of}
use Rattle.bilateral_match.specs.declared.hit.Match.{Match}
use Rattle.pool_commands.specs.Queries.{AreHits, hit_row}
use Rattle.pool_commands.proofs.queries.rows_of.Given as goal

abbrev pub invariant-loop-i : goal.invariant-loop-i
invariant-loop-i l = (matches : List Match) → AreHits (stock_of l.store).slots matches l.hits → l.rows ≡ map (hit_row (stock_of l.store).ads) (take l.i matches)
