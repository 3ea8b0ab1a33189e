use Rattle.std.proofs.Common.{◌≡◌, ◌<◌, ◌++◌, ◌∷◌, [], List, ℕ, length, sym, ◌∙◌, ap, arith}
use Rattle.std.proofs.lemmas.List.{append-nil}
use Rattle.ad_store.specs.Store.{stock_of}
use Rattle.claim_table.specs.Table.{jobs_of}
use Rattle.pool_books.specs.Books.{queue_of}
use Rattle.pool_books.specs.ClaimAnswers.{names_given}
use Rattle.pool_books.proofs.LossLemmas.{on_ok}
use Rattle.pool_state.specs.Notices.{loss_at}
use Rattle.pool_state.specs.declared.posting.Notice.{Notice}
use Rattle.pool_state.proofs.LossLemmas.{loss-none, loss-some}
use Rattle.pool_state.proofs.losses.tell_loss.Goals as goal

pub returns-then-len-eq0 : goal.returns-then-len-eq0
returns-then-len-eq0 c =
    let books = c.args.books.now in
    let given = c.in_ok-names.ensures ∙ ap (λ (n : List ℕ). names_given n (queue_of books)) c.bytes.ensures in
    let none : length c.in_ok-names.names ≡ 0 = omega (arith, c.len.ensures, c.if-len-eq0.true) in
    sym (ap (λ (l : List Notice). c.args.list.now ++ l)
    (loss-none (stock_of books.ads.store) (jobs_of books.claims) c.names_are_apart.ensures c.args.place c.job-job.result.now c.user-user.result.now
    c.in_ok-names.names c.job-job.ensures c.user-user.ensures given none) ∙ append-nil c.args.list.now)

pub returns : goal.returns
returns c =
    let books = c.args.books.now in
    let given = c.in_ok-names.ensures ∙ ap (λ (n : List ℕ). names_given n (queue_of books)) c.bytes.ensures in
    let some : 0 < length c.in_ok-names.names = omega (arith, c.len.ensures, c.if-len-eq0.false) in
    let notice = c.in_ok-about.field-0 in
    on_ok c.push.result (c.push.new.self ≡ c.args.list.now ++ notice ∷ []) (c.push.new.self ≡ c.args.list.now ++ loss_at (queue_of books) c.args.place)
    (λ is. is ∙ sym (ap (λ (l : List Notice). c.args.list.now ++ l)
    (loss-some (stock_of books.ads.store) (jobs_of books.claims) c.names_are_apart.ensures c.args.place c.job-job.result.now c.user-user.result.now
    c.in_ok-names.names c.job-job.ensures c.user-user.ensures given notice some c.in_ok-about.ensures)))
    c.push.ensures.ok
