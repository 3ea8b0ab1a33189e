use Rattle.std.proofs.Common.{◌≡◌, drop}
use Rattle.job_classes.specs.Classes.{same_key}
use Rattle.job_classes.proofs.key.are_same.Given as goal

-- the entries so far are the same
abbrev pub invariant-loop-i : goal.invariant-loop-i
invariant-loop-i l = same_key (drop l.i l.a) (drop l.i l.b) ≡ same_key l.a l.b
