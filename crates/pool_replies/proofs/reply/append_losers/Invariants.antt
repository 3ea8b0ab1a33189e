use Rattle.std.proofs.Common.{◌≡◌, ◌++◌, take, codes}
use Rattle.std.specs.List.{flat_map}
use Rattle.pool_replies.specs.Replies.{name_line}
use Rattle.pool_replies.proofs.reply.append_losers.Given as goal

abbrev pub invariant-loop-loser : goal.invariant-loop-loser
invariant-loop-loser l = l.out ≡ l.initial.out ++ flat_map (λ loser. name_line (codes "preempted ") loser) (take l.loser-index l.preempted)
