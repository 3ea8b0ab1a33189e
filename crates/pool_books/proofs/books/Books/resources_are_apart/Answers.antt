use Rattle.ad_store.specs.Stock.{Stock}
use Rattle.ad_store.specs.Store.{stock_of}
use Rattle.claim_table.specs.Table.{jobs_of}
use Rattle.pool_books.proofs.AdLemmas.{stock-length}
use Rattle.pool_books.proofs.NameLemmas.{AreBeside}
use Rattle.pool_books.proofs.OneJobLemmas.{claims-apart, jobs-held, offers-apart}
use Rattle.pool_books.proofs.books.Books.resources_are_apart.Goals as goal

pub returns-clause-offers : goal.returns-clause-offers
returns-clause-offers c =
    let books = c.args.self.now in
    let stock : Stock = stock_of books.ads.store in
    let beside : AreBeside stock.ads stock.slots =
    record { long = stock-length books.ads.store; names = c.names_are_apart.ensures; apart = c.slots_are_apart.ensures } in
    offers-apart stock beside (jobs_of books.claims) books.listed c.resources_are_apart.ensures.offers

pub returns-clause-claims : goal.returns-clause-claims
returns-clause-claims c =
    let books = c.args.self.now in
    let stock : Stock = stock_of books.ads.store in
    let beside : AreBeside stock.ads stock.slots =
    record { long = stock-length books.ads.store; names = c.names_are_apart.ensures; apart = c.slots_are_apart.ensures } in
    claims-apart stock beside (jobs_of books.claims) books.listed c.resources_are_apart.ensures.claims

pub returns-clause-held : goal.returns-clause-held
returns-clause-held c =
    let books = c.args.self.now in
    let stock : Stock = stock_of books.ads.store in
    let beside : AreBeside stock.ads stock.slots =
    record { long = stock-length books.ads.store; names = c.names_are_apart.ensures; apart = c.slots_are_apart.ensures } in
    jobs-held stock beside (jobs_of books.claims) books.listed
