use Rattle.std.proofs.Common.{◌≡◌, ◌++◌, take}
use Rattle.std.specs.List.{flat_map}
use Rattle.pool_state.specs.Notices.{turn_matches}
use Rattle.pool_state.proofs.notices.tell_spin.Given as goal

abbrev pub invariant-loop-turn : goal.invariant-loop-turn
invariant-loop-turn l = l.list ≡ l.initial.list ++ flat_map turn_matches (take l.turn-index l.spin.turns)
