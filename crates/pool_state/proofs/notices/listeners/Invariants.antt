use Rattle.std.proofs.Common.{◌≡◌, ◌∷◌, take}
use Rattle.pool_state.specs.Notices.{each_once}
use Rattle.pool_state.proofs.notices.listeners.Given as goal

abbrev pub invariant-loop-name : goal.invariant-loop-name
invariant-loop-name l = l.once ≡ each_once (l.user ∷ take l.name-index l.names)
