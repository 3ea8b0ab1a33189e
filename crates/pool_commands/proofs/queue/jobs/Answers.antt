use Rattle.std.proofs.Common.{◌++◌, ◌∷◌, [], List, sym, ◌∙◌, ap, add-one, arith}
use Rattle.std.proofs.lemmas.List.{length-map}
use Rattle.ad_store.specs.Store.{stock_of}
use Rattle.claim_table.specs.Table.{jobs_of}
use Rattle.pool_replies.specs.declared.rows.JobRow.{JobRow}
use Rattle.pool_replies.specs.declared.reply.Reply.TheVariants as reply
use Rattle.pool_books.specs.Books.{queue_of, queued}
use Rattle.pool_commands.specs.Status.{job_row}
use Rattle.pool_commands.proofs.RowLemmas.{rows-all}
use Rattle.pool_commands.proofs.StatusLemmas.{rows-next}
use Rattle.pool_commands.proofs.queue.jobs.Goals as goal

pub loop-i-preserved : goal.loop-i-preserved
loop-i-preserved c =
    let row = c.in_ok-row.field-0 in
    rw (add-one c.loop-i.i) (c.in_ok-push.ensures.ok ∙ ap (λ (rows : List JobRow). rows ++ row ∷ []) c.loop-i.invariant
    ∙ rows-next (queue_of c.args.books.now) c.loop-i.i row c.in_ok-row.ensures)

pub returns-clause-reply : goal.returns-clause-reply
returns-clause-reply c =
    let books = c.args.books.now in
    let jobs = jobs_of books.claims in
    sym (ap (λ (rows : List JobRow). reply.Jobs rows) (c.loop-i.invariant ∙ rows-all job_row (queue_of books) c.loop-i.i
    (omega (arith, length-map jobs (queued (stock_of books.ads.store)), c.loop-i-test.false, c.len-i-end.ensures.len))))
