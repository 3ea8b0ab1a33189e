use Rattle.std.proofs.Common.{sym, subst}
use Rattle.std.proofs.Math.Logic.{∥∥₁_map}
use Rattle.ad_store.specs.Store.{stock_of}
use Rattle.literal_index.specs.Shown.{IsKept}
use Rattle.pool_books.proofs.IndexLemmas.{withdrawn_rows}
use Rattle.pool_books.proofs.SmallLemmas.{small-withdrawn}
use Rattle.pool_books.proofs.indexed.IndexedStore.withdraw.Goals as goal

pub invariant_of-self : goal.invariant_of-self
invariant_of-self g c =
    let w = c.withdraw.ensures in
    let rows = withdrawn_rows c.withdraw.result c.args.name.now (stock_of c.args.self.now.store) (stock_of c.withdraw.new.self) w.ads w.slots w.none w.err in
    record {
      indexed = ∥∥₁_map c.args.self.now.indexed (λ kept. subst (IsKept c.forget.new.index) (sym rows) (c.forget.ensures.others kept));
      small =
          small-withdrawn c.withdraw.result c.args.name.now (stock_of c.args.self.now.store) (stock_of c.withdraw.new.self) w.ads w.err c.args.self.now.small;
    }
