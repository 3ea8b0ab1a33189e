use Rattle.std.proofs.Common.{List, [], ◌∷◌, ◌++◌, Contains, ◌∙◌, ap, arith, add-one}
use Rattle.ad_store.specs.Store.{stock_of}
use Rattle.pool_replies.specs.declared.rows.HitRow.{HitRow}
use Rattle.pool_commands.proofs.HitLemmas.{all_at, rows_all, rows_next}
use Rattle.pool_commands.proofs.queries.rows_of.Goals as goal

pub row-requires : goal.row-requires
row-requires c = all_at (λ hit. Contains (stock_of c.args.store.now).slots hit.slot) c.args.hits.now c.loop-i.i c.at.result.now c.requires c.at.ensures

pub loop-i-preserved : goal.loop-i-preserved
loop-i-preserved c = λ matches are.
    let stock = stock_of c.args.store.now in
    let row = c.in_ok-row.field-0 in
    rw (add-one c.loop-i.i) (c.in_ok-push.ensures.ok ∙ ap (λ (rows : List HitRow). rows ++ row ∷ []) (c.loop-i.invariant matches are)
    ∙ rows_next stock.ads stock.slots matches c.args.hits.now c.loop-i.i c.at.result.now row are c.at.ensures c.in_ok-row.ensures)

pub returns : goal.returns
returns c = λ matches are.
    let stock = stock_of c.args.store.now in
    c.loop-i.invariant matches are ∙ rows_all stock.ads stock.slots matches c.args.hits.now c.loop-i.i are (omega
    (arith, c.loop-i-test.false, c.len-i-end.ensures))
