use Rattle.std.proofs.Common.{arith}
use Rattle.ad_store.specs.Store.{stock_of}
use Rattle.ad_candidates.specs.Rows.{rows_of}
use Rattle.ad_candidates.proofs.NarrowLemmas.{few-of-all, some-pairs}
use Rattle.ad_candidates.proofs.narrowing.narrowest.Goals as goal

pub returns-then-is_some-clause-few : goal.returns-then-is_some-clause-few
returns-then-is_some-clause-few c =
    let stock = stock_of c.args.store.now in
    few-of-all _ (rows_of stock) stock.ads c.args.tests.now c.narrowest_within-found.result (omega (arith, c.if-most-all.true, c.requires.all))
    c.narrowest_within-found.ensures.few

pub returns-then-is_some-clause-pairs : goal.returns-then-is_some-clause-pairs
returns-then-is_some-clause-pairs c =
    some-pairs (rows_of (stock_of c.args.store.now)) c.args.tests.now _ c.narrowest_within-found.result c.narrowest_within-found.ensures.pairs

pub returns-clause-few : goal.returns-clause-few
returns-clause-few c =
    let stock = stock_of c.args.store.now in
    few-of-all c.args.all (rows_of stock) stock.ads c.args.tests.now c.narrowest_within.result c.requires.all c.narrowest_within.ensures.few

pub returns-clause-pairs : goal.returns-clause-pairs
returns-clause-pairs c = some-pairs (rows_of (stock_of c.args.store.now)) c.args.tests.now _ c.narrowest_within.result c.narrowest_within.ensures.pairs
