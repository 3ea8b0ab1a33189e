use Rattle.std.proofs.Common.{◌≡◌, ◌++◌, take}
use Rattle.std.specs.List.{flat_map}
use Rattle.pool_replies.specs.Cycles.{turn_text}
use Rattle.pool_replies.proofs.cycle.append_turns.Given as goal

abbrev pub invariant-loop-turn : goal.invariant-loop-turn
invariant-loop-turn l = l.out ≡ l.initial.out ++ flat_map turn_text (take l.turn-index l.turns)
