use Rattle.std.proofs.Common.{◌≡◌, drop}
use Rattle.job_classes.specs.Keys.{digest_behind}
use Rattle.job_classes.proofs.key.digest_of.Given as goal

-- the entries that are left give what all do behind those so far
abbrev pub invariant-loop-i : goal.invariant-loop-i
invariant-loop-i l = digest_behind l.digest (drop l.i l.entries) ≡ digest_behind 0 l.entries
