use Rattle.std.proofs.Common.{◌≡◌, ◌+◌, sum_by, take}
use Rattle.pool_replies.specs.Cycles.{offers_of_turn}
use Rattle.pool_replies.proofs.cycle.offers_of_turns.Given as goal

abbrev pub invariant-loop-turn : goal.invariant-loop-turn
invariant-loop-turn l = l.count ≡ l.before + sum_by offers_of_turn (take l.turn-index l.turns)
