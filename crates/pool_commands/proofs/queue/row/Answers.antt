use Rattle.std.proofs.Common.{Some, ap, sym, ◌∙◌}
use Rattle.ad_store.specs.Store.{stock_of}
use Rattle.claim_table.specs.Table.{jobs_of}
use Rattle.pool_commands.proofs.StatusLemmas.{row-is, slots-held}
use Rattle.pool_commands.proofs.queue.row.Goals as goal

pub names_of-requires : goal.names_of-requires
names_of-requires c =
    let books = c.args.books.now in
    slots-held (jobs_of books.claims) c.args.i c.standing-standing.result.now c.standing-standing.ensures (stock_of books.ads.store).slots c.slots.result.now
    books.listed c.slots.ensures

pub returns : goal.returns
returns c =
    let books = c.args.books.now in
    row-is (jobs_of books.claims) c.args.i c.standing-standing.result.now c.standing-standing.ensures (stock_of books.ads.store)
    c.in_ok-copy.field-0 c.in_ok-copy-2.field-0 c.state.result c.slots.result.now c.in_ok-names_of.field-0
    (c.job.ensures ∙ ap Some (sym c.in_ok-copy.ensures.text)) (c.user.ensures ∙ ap Some (sym c.in_ok-copy-2.ensures.text))
    c.state.ensures c.slots.ensures c.in_ok-names_of.ensures
