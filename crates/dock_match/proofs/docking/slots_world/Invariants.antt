use Rattle.std.proofs.Common.{◌≡◌, ◌+◌, take}
use Rattle.ad_store.specs.Store.{stock_of}
use Rattle.eval_scope.specs.Shown.{world_of}
use Rattle.dock_match.specs.Pool as pool
use Rattle.dock_match.proofs.docking.slots_world.Given as goal

abbrev pub invariant-loop-slot : goal.invariant-loop-slot
invariant-loop-slot g l = record {
  world : world_of l.world ≡ pool.slots_world l.moment (stock_of l.store) l.request (take l.slot-index l.slots);
  looks : l.touch ≡ l.initial.touch + l.slot-index;
}
