use Rattle.std.proofs.Common.{◌≡◌, length, map}
use Rattle.pool_script.specs.Keywords.{keyword_in}
use Rattle.pool_script.proofs.keyword.keyword_in.Given as goal

abbrev pub invariant-loop-table : goal.invariant-loop-table
invariant-loop-table l = keyword_in (map (λ k. (k.0.now, k.1)) l.table) l.word ≡ keyword_in (map (λ k. (k.0.now, k.1)) l.initial.table) l.word

abbrev pub decreases-loop-table : goal.decreases-loop-table
decreases-loop-table l = length l.table
