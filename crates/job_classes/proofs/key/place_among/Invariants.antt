use Rattle.std.proofs.Common.{◌≡◌, ◌+◌, drop}
use Rattle.job_classes.specs.Shown.{place_among}
use Rattle.job_classes.proofs.key.place_among.Given as goal

-- no entry so far has a greater name
abbrev pub invariant-loop-i : goal.invariant-loop-i
invariant-loop-i l = place_among l.name l.entries ≡ l.i + place_among l.name (drop l.i l.entries)
