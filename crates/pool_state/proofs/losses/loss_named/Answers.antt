use Rattle.std.proofs.Common.{◌++◌, [], sym, ◌∙◌, ap}
use Rattle.std.specs.Option.{option_map_or}
use Rattle.ad_store.specs.Store.{stock_of}
use Rattle.claim_table.specs.Table.{jobs_of}
use Rattle.pool_books.specs.Books.{queue_of}
use Rattle.pool_state.specs.Notices.{loss, loss_at}
use Rattle.pool_state.proofs.LossLemmas.{named-none, named-some}
use Rattle.pool_state.proofs.losses.loss_named.Goals as goal

pub returns-in_default : goal.returns-in_default
returns-in_default c =
    let books = c.args.books.now in
    c.new-list.ensures ∙ sym (ap (λ o. option_map_or loss o [])
    (named-none (stock_of books.ads.store) (jobs_of books.claims) c.args.job.now (sym c.in_default.ensures.number)))

pub returns : goal.returns
returns c =
    let books = c.args.books.now in
    c.in_ok-tell_loss.ensures ∙ ap (λ l. l ++ loss_at (queue_of books) c.in-Some.i) c.new-list.ensures
    ∙ sym (ap (λ o. option_map_or loss o []) (named-some (stock_of books.ads.store) (jobs_of books.claims) c.args.job.now c.in-Some.i
    (sym c.in-Some.ensures.number)))
