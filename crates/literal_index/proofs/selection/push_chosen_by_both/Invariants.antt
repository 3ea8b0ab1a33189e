use Rattle.std.proofs.Common.{◌≡◌, ◌++◌, map}
use Rattle.std.specs.Map.Iter.{deref_pair}
use Rattle.literal_index.specs.Entries.{slots_of_both}
use Rattle.literal_index.proofs.selection.push_chosen_by_both.Given as goal

abbrev pub invariant-loop-place : goal.invariant-loop-place
invariant-loop-place l = l.slots.items ≡ l.initial.slots.items ++ slots_of_both l.first l.second (map deref_pair l.yielded)
