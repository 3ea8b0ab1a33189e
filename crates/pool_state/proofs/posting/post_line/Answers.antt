use Rattle.pool_state.proofs.PostingLemmas.{line-failed, line-taken}
use Rattle.pool_state.proofs.posting.post_line.Goals as goal

pub returns-in-Failed : goal.returns-in-Failed
returns-in-Failed g c =
    line-failed c.args.name.now c.args.line.now c.post.result (g.D.Notices.shows c.args.desk.now) (g.D.Notices.left c.args.desk.now)
    (g.D.Notices.shows c.post.new.self) (g.D.Notices.left c.post.new.self)
    (g.D.Notices.shows c.retire_failed-retired.new.self) (g.D.Notices.left c.retire_failed-retired.new.self)
    c.in-Failed.is c.post.ensures.no_box c.post.ensures.rows c.post.ensures.left c.retire_failed-retired.ensures.rows c.retire_failed-retired.ensures.left

pub returns-in_default : goal.returns-in_default
returns-in_default g c =
    line-taken c.args.name.now c.args.line.now c.post.result (g.D.Notices.shows c.args.desk.now) (g.D.Notices.left c.args.desk.now)
    (g.D.Notices.shows c.post.new.self) (g.D.Notices.left c.post.new.self)
    c.in_default.not-Failed c.post.ensures.no_box c.post.ensures.rows c.post.ensures.left
