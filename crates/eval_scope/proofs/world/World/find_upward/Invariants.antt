use Rattle.std.proofs.Common.{◌≡◌, suc}
use Rattle.std.specs.Option.{option_map_or}
use Rattle.eval_scope.specs.Look.{enclosing, first_found}
use Rattle.eval_scope.specs.Shown.{world_of}
use Rattle.eval_scope.proofs.LookLemmas.{from_frame}
use Rattle.eval_scope.proofs.world.World.find_upward.Given as goal

-- what the rest finds is what the whole finds
abbrev pub invariant-loop-next : goal.invariant-loop-next
invariant-loop-next l =
    first_found (world_of l.self) l.name (from_frame (world_of l.self) l.at.ad l.next) ≡ first_found (world_of l.self) l.name (enclosing (world_of l.self) l.at)

abbrev pub decreases-loop-next : goal.decreases-loop-next
decreases-loop-next l = option_map_or suc l.next 0
