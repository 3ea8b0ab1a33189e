use Rattle.std.proofs.Common.{take}
use Rattle.pool_state.specs.Posting.{ArePosted, desk_of, posts_of_all}
use Rattle.pool_state.proofs.posting.post_all.Given as goal

abbrev pub invariant-loop-notice : goal.invariant-loop-notice
invariant-loop-notice g l =
    ArePosted (posts_of_all (take l.notice-index l.notices)) (desk_of (g.D.Notices.shows l.initial.desk) (g.D.Notices.left l.initial.desk))
    (desk_of (g.D.Notices.shows l.desk) (g.D.Notices.left l.desk))
