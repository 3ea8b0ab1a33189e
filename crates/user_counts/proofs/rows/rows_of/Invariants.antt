use Rattle.std.proofs.Common.{◌≡◌, ◌++◌, map}
use Rattle.user_counts.specs.Shown.{row_of}
use Rattle.user_counts.proofs.rows.rows_of.Given as goal

abbrev pub invariant-loop-key : goal.invariant-loop-key
invariant-loop-key l = l.rows ++ map row_of l.key-iterator ≡ map row_of l.tallies.entries
