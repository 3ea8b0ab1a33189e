-- The pool in which a request is given resources, and what is docked of it.
use Rattle.std.specs.Prelude.{ℕ, Bool, Option}
use Rattle.ad_store.specs.Holdings.{Holding}
use Rattle.ad_store.specs.Stock.{Stock}
use Rattle.ad_store.specs.Store.{stock_of}
use Rattle.dock_match.specs.Pool.{Pool, pool_of}
use Rattle.eval_scope.specs.Shown.{world_of}
use Rattle.eval_scope.specs.World.{PlainWorld}
use Rattle.gang_ports.specs.declared.prefix.Prefix.{Prefix}
use Rattle.gang_ports.specs.declared.scene.Scene.{Scene}

-- the resources of the scene
abbrev pub stock_in : {H : Type 0} → Scene H → Stock
stock_in scene = stock_of scene.store.now

-- what is offered and claimed of it is what the scene's holdings say
abbrev pub pool_in : {H : Type 0} → (H → ℕ → Bool) → (H → ℕ → Option Holding) → Scene H → Pool
pool_in is_offered holding scene = pool_of scene.moment (stock_in scene) (is_offered scene.held.now) (holding scene.held.now)

-- the world in which what stands before a port is docked
abbrev pub world_behind : Prefix → PlainWorld
world_behind prefix = world_of prefix.world.now
