use Rattle.std.proofs.Common.{◌≡◌, ℕ, List, map, All, Contains, sym, ◌∙◌, ap, subst}
use Rattle.ad_store.specs.Store.{stock_of}
use Rattle.claim_table.specs.Table.{jobs_of}
use Rattle.pool_books.specs.Books.{queue_of, name_in}
use Rattle.pool_books.specs.ClaimAnswers.{names_given}
use Rattle.pool_books.proofs.ClaimLemmas.{given-held, given-seen}
use Rattle.pool_books.proofs.HitLemmas.{if_ok}
use Rattle.pool_books.proofs.naming.names_given.Goals as goal

pub names_of-requires : goal.names_of-requires
names_of-requires c =
    let books = c.args.books.now in
    let slots = (stock_of books.ads.store).slots in
    subst (λ (own : List ℕ). All (Contains slots) own) (sym c.slots.ensures) (given-held slots c.args.job.now (jobs_of books.claims) books.listed books.owned)

pub returns : goal.returns
returns c =
    let books = c.args.books.now in
    let stock = stock_of books.ads.store in
    if_ok c.names_of.result (λ names. names ≡ map (name_in stock) c.slots.result.now) (λ names. names ≡ names_given c.args.job.now (queue_of books))
    (λ names is. is ∙ ap (map (name_in stock)) c.slots.ensures ∙ given-seen stock c.args.job.now (jobs_of books.claims)) c.names_of.ensures
