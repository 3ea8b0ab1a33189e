use Rattle.std.proofs.Common.{◌≡◌, ◌++◌, take}
use Rattle.std.specs.List.{flat_map}
use Rattle.pool_replies.specs.Replies.{ad_line}
use Rattle.pool_replies.proofs.reply.append_ads.Given as goal

abbrev pub invariant-loop-row : goal.invariant-loop-row
invariant-loop-row l = l.out ≡ l.initial.out ++ flat_map ad_line (take l.row-index l.rows)
