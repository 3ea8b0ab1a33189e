use Rattle.std.proofs.Common.{sym, subst}
use Rattle.std.proofs.Math.Logic.{∥∥₁_elim, ∥∥₁_map}
use Rattle.std.proofs.Props.{props}
use Rattle.ad_store.specs.Stock.{Stock}
use Rattle.ad_store.specs.Store.{stock_of}
use Rattle.literal_index.specs.Shown.{IsIndex, IsKept}
use Rattle.ad_candidates.specs.Rows.{rows_of}
use Rattle.dock_match.specs.Small.{AreSmallAds}
use Rattle.pool_books.proofs.LossLemmas.{on_ok}
use Rattle.pool_books.proofs.indexed.IndexedStore.settle.Goals as goal

pub invariant_of-self : goal.invariant_of-self
invariant_of-self c =
    let same = sym c.settle_order.ensures in
    let rows = rows_of (stock_of c.args.self.now.store) in
    record {
      indexed = ∥∥₁_map c.args.self.now.indexed (λ kept. subst (λ (s : Stock). IsKept c.settle.new.self (rows_of s)) same (c.settle.ensures.kept rows kept));
      small = subst (λ (s : Stock). AreSmallAds s.ads) same c.args.self.now.small;
    }

pub returns-clause-ok : goal.returns-clause-ok
returns-clause-ok c =
    let rows = rows_of (stock_of c.args.self.now.store) in
    on_ok c.settle.result _ _
    (λ settled. subst (λ (s : Stock). IsIndex c.settle.new.self (rows_of s)) (sym c.settle_order.ensures)
    (∥∥₁_elim c.args.self.now.indexed (Prim.hlevel props) (λ kept. settled rows kept)))
    c.settle.ensures.ok
