use Rattle.std.proofs.Common.{◌≡◌, ◌<◌, ℕ, false, take}
use Rattle.gang_ports.specs.Search.{is_spent}
use Rattle.gang_ports.proofs.searching.blamed_places.Given as goal

-- fewer places left the port a resource
abbrev pub invariant-loop-many : goal.invariant-loop-many
invariant-loop-many l = (j : ℕ) → j < l.many → is_spent (take j l.before) l.side ≡ false
