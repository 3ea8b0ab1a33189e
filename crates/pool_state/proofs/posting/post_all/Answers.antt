use Rattle.std.proofs.Common.{◌≡◌, List, Some, slice_get, sym, ◌∙◌, ap, subst}
use Rattle.std.proofs.lemmas.Option.{slice_get-get_or}
use Rattle.pool_state.specs.Posting.{desk_of, posts_of}
use Rattle.pool_state.specs.declared.posting.Notice.{Notice}
use Rattle.pool_state.proofs.PostingLemmas.{posted_next}
use Rattle.pool_state.proofs.posting.post_all.Goals as goal

pub loop-notice-preserved : goal.loop-notice-preserved
loop-notice-preserved g c =
    let i = c.loop-notice.notice-index in
    let notice = c.notice-item.result in
    let at : slice_get c.args.notices.now i ≡ Some notice =
    subst (λ (l : List Notice). slice_get l i ≡ Some notice) c.as_slice-notice-items.ensures
    (slice_get-get_or c.as_slice-notice-items.result.now i notice c.loop-notice-test.true ∙ ap (λ (n : Notice). Some n) (sym c.notice-item.is)) in
    let a = desk_of (g.D.Notices.shows c.args.desk.now) (g.D.Notices.left c.args.desk.now) in
    let b = desk_of (g.D.Notices.shows c.loop-notice.desk) (g.D.Notices.left c.loop-notice.desk) in
    let d = desk_of (g.D.Notices.shows c.post_notice.new.desk) (g.D.Notices.left c.post_notice.new.desk) in
    posted_next posts_of c.args.notices.now i notice a b d at c.loop-notice.invariant c.post_notice.ensures
