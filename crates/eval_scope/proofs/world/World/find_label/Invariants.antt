use Rattle.std.proofs.Common.{◌≡◌, suc, drop}
use Rattle.eval_scope.specs.Look.{first_found, labels, labels_from}
use Rattle.eval_scope.specs.Shown.{world_of}
use Rattle.eval_scope.proofs.world.World.find_label.Given as goal

-- what the ports from here on have is what all have
abbrev pub invariant-loop-port : goal.invariant-loop-port
invariant-loop-port l =
    first_found (world_of l.self) l.name (labels_from (suc l.port) (drop l.port (world_of l.self).ports) (drop l.port (world_of l.self).docked))
    ≡ first_found (world_of l.self) l.name (labels (world_of l.self) 0)
