use Rattle.std.proofs.Common.{◌≡◌, ◌++◌, drop, map}
use Rattle.pie_slices.specs.Slices.{slice_of}
use Rattle.pie_slices.proofs.sharing.slices.Given as goal

abbrev pub invariant-loop-i : goal.invariant-loop-i
invariant-loop-i l = l.slices ++ map (slice_of l.n l.total) (drop l.i l.weights) ≡ map (slice_of l.n l.total) l.weights
