use Rattle.std.proofs.Common.{ℕ, List, Option, Some, option_map, slice_get, sym, ◌∙◌, ap}
use Rattle.std.specs.Option.{option_and_then}
use Rattle.ad_store.specs.Store.{stock_of}
use Rattle.claim_table.specs.declared.job.Job.{Job}
use Rattle.claim_table.specs.Table.{jobs_of}
use Rattle.pool_books.specs.Books.{queue_of}
use Rattle.pool_books.proofs.AdLemmas.{stock-length}
use Rattle.pool_books.proofs.NameLemmas.{AreBeside}
use Rattle.pool_commands.proofs.AdLemmas.{row-is}
use Rattle.pool_commands.proofs.JobLemmas.{claimed-seen, offered-seen}
use Rattle.pool_commands.proofs.ads.row.Goals as goal

pub returns : goal.returns
returns c = λ i at.
    let books = c.args.books.now in
    let stock = stock_of books.ads.store in
    let jobs = jobs_of books.claims in
    let beside : AreBeside stock.ads stock.slots =
    record { long = stock-length books.ads.store; names = c.names_are_apart.ensures; apart = c.slots_are_apart.ensures } in
    let named : Option ℕ → Option (List ℕ) = λ number. option_map (λ (job : Job). job.name) (option_and_then (λ k. slice_get jobs k) number) in
    row-is (queue_of books) stock.ads i c.in_ok-copy.field-0 c.born.result c.lifetime.result c.in_ok-job_name.field-0 c.in_ok-job_name-2.field-0
    (c.name.ensures i at ∙ ap Some (sym c.in_ok-copy.ensures.text)) (c.born.ensures i at) (c.lifetime.ensures i at)
    (λ a there. c.in_ok-job_name.ensures ∙ ap named c.claimed_by.ensures.number ∙ claimed-seen stock beside i a c.args.slot there at jobs books.listed)
    (λ a there. c.in_ok-job_name-2.ensures ∙ ap named c.offered_to.ensures.number ∙ offered-seen stock beside i a c.args.slot there at jobs books.listed)
