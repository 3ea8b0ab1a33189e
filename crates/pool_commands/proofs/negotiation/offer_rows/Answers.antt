use Rattle.std.proofs.Common.{List, [], ◌∷◌, ◌++◌, ◌∙◌, ap, add-one, arith}
use Rattle.ad_store.specs.Store.{stock_of}
use Rattle.pool_replies.specs.declared.rows.OfferRow.{OfferRow}
use Rattle.pool_books.specs.Rows.{IsOfferHeld, offer_row}
use Rattle.pool_commands.proofs.HitLemmas.{all_at}
use Rattle.pool_commands.proofs.RowLemmas.{rows-all, rows-more}
use Rattle.pool_commands.proofs.negotiation.offer_rows.Goals as goal

pub offer_row-requires : goal.offer_row-requires
offer_row-requires c = all_at (IsOfferHeld (stock_of c.args.store.now).slots) c.args.offers.now c.loop-i.i c.at.result.now c.requires c.at.ensures

pub loop-i-preserved : goal.loop-i-preserved
loop-i-preserved c =
    let row = c.in_ok-offer_row.field-0 in
    rw (add-one c.loop-i.i) (c.in_ok-push.ensures.ok ∙ ap (λ (rows : List OfferRow). rows ++ row ∷ []) c.loop-i.invariant
    ∙ rows-more (offer_row (stock_of c.args.store.now)) c.args.offers.now c.loop-i.i c.at.result.now row c.at.ensures c.in_ok-offer_row.ensures)

pub returns : goal.returns
returns c =
    c.loop-i.invariant ∙ rows-all (offer_row (stock_of c.args.store.now)) c.args.offers.now c.loop-i.i (omega (arith, c.loop-i-test.false, c.len-i-end.ensures))
