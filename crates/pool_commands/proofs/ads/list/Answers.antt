use Rattle.std.proofs.Common.{◌++◌, ◌∷◌, [], List, ◌∙◌, ap, add-one}
use Rattle.pool_replies.specs.declared.rows.AdRow.{AdRow}
use Rattle.pool_books.specs.Books.{queue_of}
use Rattle.pool_books.specs.Indexed.{ads_of}
use Rattle.pool_commands.proofs.AdLemmas.{rows_more}
use Rattle.pool_commands.proofs.ads.list.Goals as goal

pub loop-i-preserved : goal.loop-i-preserved
loop-i-preserved c =
    let row = c.in_ok-row.field-0 in
    rw (add-one c.loop-i.i) (c.in_ok-push.ensures.ok ∙ ap (λ (rows : List AdRow). rows ++ row ∷ []) c.loop-i.invariant
    ∙ rows_more (queue_of c.args.books.now) (ads_of c.args.books.now.ads) c.loop-i.i row (c.in_ok-row.ensures c.loop-i.i c.at.ensures.place))
