use Rattle.std.proofs.Common.{◌≡◌, filter, map, not, nat_eq}
use Rattle.std.specs.List.{list_any}
use Rattle.std.specs.Map.Iter.{deref}
use Rattle.literal_index.proofs.selection.others.Given as goal

abbrev pub invariant-loop-slot : goal.invariant-loop-slot
invariant-loop-slot l = l.list ≡ filter (λ slot. not (list_any (nat_eq slot) l.but)) (map deref l.yielded)
