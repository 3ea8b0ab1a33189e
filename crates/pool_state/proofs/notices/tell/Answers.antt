use Rattle.std.proofs.Common.{List, subst}
use Rattle.std.specs.List.{AllZip}
use Rattle.pool_state.specs.Posting.{RowAfter, desk_of, posts_of_all}
use Rattle.pool_state.specs.declared.posting.Notice.{Notice}
use Rattle.pool_state.proofs.PostingLemmas.{rows-posted}
use Rattle.pool_state.proofs.notices.tell.Goals as goal

pub returns-in-Ok-clause-posted : goal.returns-in-Ok-clause-posted
returns-in-Ok-clause-posted g c =
    subst (λ (l : List Notice). AllZip (RowAfter (posts_of_all l)) (g.D.Notices.shows c.args.desk.now) (g.D.Notices.shows c.post_all.new.desk)) c.in-Ok.ensures
    (rows-posted (posts_of_all c.in-Ok.notices) (desk_of (g.D.Notices.shows c.args.desk.now) (g.D.Notices.left c.args.desk.now))
    (desk_of (g.D.Notices.shows c.post_all.new.desk) (g.D.Notices.left c.post_all.new.desk)) c.post_all.ensures)
