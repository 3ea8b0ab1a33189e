use Rattle.std.proofs.Common.{◌≡◌, take}
use Rattle.ad_store.specs.Store.{stock_of}
use Rattle.pool_commands.specs.Explaining.{ad_names}
use Rattle.pool_commands.proofs.explaining.names_in_order.Given as goal

abbrev pub invariant-loop-i : goal.invariant-loop-i
invariant-loop-i l = l.names ≡ ad_names (take l.i (stock_of l.store).ads)
