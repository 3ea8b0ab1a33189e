use Rattle.std.proofs.Common.{◌≡◌, map, take}
use Rattle.ad_store.specs.Store.{stock_of}
use Rattle.bilateral_match.specs.Answers.{hit_of}
use Rattle.bilateral_match.proofs.querying.hits_of.Given as goal

abbrev pub invariant-loop-m : goal.invariant-loop-m
invariant-loop-m l = l.hits ≡ map (hit_of (stock_of l.store).slots) (take l.m-index l.found)
