use Rattle.std.proofs.Common.{◌≡◌, ◌+◌, drop}
use Rattle.job_classes.specs.Classes.{number_of}
use Rattle.job_classes.proofs.classes.number_of.Given as goal

-- no class so far has the key
abbrev pub invariant-loop-i : goal.invariant-loop-i
invariant-loop-i l = number_of l.key l.keys ≡ l.i + number_of l.key (drop l.i l.keys)
