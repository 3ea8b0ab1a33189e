use Rattle.std.proofs.Common.{◌≡◌, length, map}
use Rattle.builtin_funcs.specs.Functions.{function_in}
use Rattle.builtin_funcs.proofs.function.function_in.Given as goal

abbrev pub invariant-loop-table : goal.invariant-loop-table
invariant-loop-table l = function_in (map (λ k. (k.0.now, k.1)) l.table) l.name ≡ function_in (map (λ k. (k.0.now, k.1)) l.initial.table) l.name

abbrev pub decreases-loop-table : goal.decreases-loop-table
decreases-loop-table l = length l.table
