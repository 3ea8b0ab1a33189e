use Rattle.std.proofs.Common.{◌≡◌, ◌++◌, map}
use Rattle.std.specs.Map.Iter.{deref_pair}
use Rattle.literal_index.specs.Entries.{chosen_slots}
use Rattle.literal_index.proofs.selection.push_chosen.Given as goal

abbrev pub invariant-loop-place : goal.invariant-loop-place
invariant-loop-place l = l.slots.items ≡ l.initial.slots.items ++ chosen_slots l.test l.choice (map deref_pair l.yielded)
