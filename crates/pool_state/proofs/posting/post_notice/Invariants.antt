use Rattle.std.proofs.Common.{map, take}
use Rattle.pool_state.specs.Posting.{ArePosted, desk_of, post_to}
use Rattle.pool_state.proofs.posting.post_notice.Given as goal

abbrev pub invariant-loop-name : goal.invariant-loop-name
invariant-loop-name g l =
    ArePosted (map (post_to l.notice.line) (take l.name-index l.notice.names)) (desk_of (g.D.Notices.shows l.initial.desk) (g.D.Notices.left l.initial.desk))
    (desk_of (g.D.Notices.shows l.desk) (g.D.Notices.left l.desk))
