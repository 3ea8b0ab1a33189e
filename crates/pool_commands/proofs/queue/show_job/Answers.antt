use Rattle.std.proofs.Common.{sym}
use Rattle.ad_store.specs.Store.{stock_of}
use Rattle.claim_table.specs.Table.{jobs_of}
use Rattle.pool_books.specs.Books.{queue_of}
use Rattle.pool_commands.proofs.ExplainLemmas.{nobody}
use Rattle.pool_commands.proofs.StatusLemmas.{show-known, show-unknown}
use Rattle.pool_commands.proofs.queue.show_job.Goals as goal

pub returns-in_default-clause-reply : goal.returns-in_default-clause-reply
returns-in_default-clause-reply c =
    let books = c.args.books.now in
    show-unknown c.args.name.now (queue_of books) (nobody (stock_of books.ads.store) (jobs_of books.claims) c.args.name.now (sym c.in_default.ensures.number))

pub returns-clause-reply : goal.returns-clause-reply
returns-clause-reply c =
    let books = c.args.books.now in
    show-known (stock_of books.ads.store) (jobs_of books.claims) c.args.name.now c.in-Some.i c.request.result.now c.in_ok-print_ad.field-0
    (sym c.in-Some.ensures.number) c.request.ensures c.in_ok-print_ad.ensures
