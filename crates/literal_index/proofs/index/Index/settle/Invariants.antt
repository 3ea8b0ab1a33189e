use Rattle.std.proofs.Common.{List}
use Rattle.std.specs.BTreeMap.{btree_map_len}
use Rattle.literal_index.specs.Rows.{Row}
use Rattle.literal_index.specs.Shown.{IsKept}
use Rattle.literal_index.proofs.index.Index.settle.Given as goal

abbrev pub invariant-loop-slot : goal.invariant-loop-slot
invariant-loop-slot l = (rows : List Row) → IsKept l.initial.self rows → IsKept l.self rows

abbrev pub decreases-loop-slot : goal.decreases-loop-slot
decreases-loop-slot l = btree_map_len l.self.waiting
