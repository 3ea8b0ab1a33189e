use Rattle.std.proofs.Common.{List, ap, sym, ◌∙◌}
use Rattle.ad_store.specs.Store.{stock_of}
use Rattle.claim_table.specs.Settings.{settings_of}
use Rattle.claim_table.specs.Table.{jobs_of}
use Rattle.pool_replies.specs.declared.rows.UserRow.{UserRow}
use Rattle.user_counts.specs.Users.{UserJob, user_rows}
use Rattle.pool_replies.specs.declared.reply.Reply.TheVariants as reply
use Rattle.pool_commands.proofs.StatusLemmas.{users-seen}
use Rattle.pool_commands.proofs.queue.users.Goals as goal

pub returns-clause-reply : goal.returns-clause-reply
returns-clause-reply c =
    let books = c.args.books.now in
    let settings = settings_of c.args.priorities.now in
    ap (λ (jobs : List UserJob). reply.Users (user_rows settings jobs)) (users-seen (stock_of books.ads.store) (jobs_of books.claims))
    ∙ ap (λ (rows : List UserRow). reply.Users rows) (sym c.in_ok-rows.ensures)
