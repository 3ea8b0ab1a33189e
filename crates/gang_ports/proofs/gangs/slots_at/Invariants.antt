use Rattle.std.proofs.Common.{◌≡◌, map, take}
use Rattle.ad_store.specs.Store.{stock_of}
use Rattle.dock_match.specs.Pool.{slot_at}
use Rattle.gang_ports.proofs.gangs.slots_at.Given as goal

abbrev pub invariant-loop-place : goal.invariant-loop-place
invariant-loop-place l = l.slots ≡ map (slot_at (stock_of l.store)) (take l.place-index l.places)
