use Rattle.std.proofs.Common.{◌≡◌, length, map}
use Rattle.builtin_funcs.specs.Lists.{comparison_in}
use Rattle.builtin_funcs.proofs.lists.comparison_in.Given as goal

abbrev pub invariant-loop-table : goal.invariant-loop-table
invariant-loop-table l = comparison_in (map (λ k. (k.0.now, k.1)) l.table) l.spelling ≡ comparison_in (map (λ k. (k.0.now, k.1)) l.initial.table) l.spelling

abbrev pub decreases-loop-table : goal.decreases-loop-table
decreases-loop-table l = length l.table
