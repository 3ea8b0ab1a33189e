use Rattle.std.proofs.Common.{◌≡◌, ◌∷◌, [], ℕ, List, Some, slice_get, sym, ◌∙◌, ap, subst}
use Rattle.std.proofs.lemmas.Option.{slice_get-get_or}
use Rattle.pool_state.specs.Posting.{ArePosted, desk_of, post_to}
use Rattle.pool_state.proofs.PostingLemmas.{posted_name}
use Rattle.pool_state.proofs.posting.post_notice.Goals as goal

pub loop-name-preserved : goal.loop-name-preserved
loop-name-preserved g c =
    let i = c.loop-name.name-index in
    let line = c.args.notice.now.line in
    let name = c.name-item.result in
    let names = c.args.notice.now.names in
    let at : slice_get names i ≡ Some name =
    subst (λ (l : List (List ℕ)). slice_get l i ≡ Some name) c.as_slice-name-items.ensures
    (slice_get-get_or c.as_slice-name-items.result.now i name c.loop-name-test.true ∙ ap (λ (n : List ℕ). Some n) (sym c.name-item.is)) in
    let a = desk_of (g.D.Notices.shows c.args.desk.now) (g.D.Notices.left c.args.desk.now) in
    let b = desk_of (g.D.Notices.shows c.loop-name.desk) (g.D.Notices.left c.loop-name.desk) in
    let d = desk_of (g.D.Notices.shows c.post_line.new.desk) (g.D.Notices.left c.post_line.new.desk) in
    let posted : ArePosted (post_to line name ∷ []) b d =
    subst (λ (l : List ℕ). ArePosted (post_to l name ∷ []) b d) c.bytes-in-loop-name.ensures
    (subst (λ (n : List ℕ). ArePosted (post_to c.bytes-in-loop-name.result.now n ∷ []) b d) c.bytes.ensures c.post_line.ensures) in
    posted_name (post_to line) names i name a b d at c.loop-name.invariant posted
