use Rattle.std.proofs.Common.{sym, ◌∙◌, subst}
use Rattle.std.proofs.Math.Logic.{∥∥₁_map}
use Rattle.ad_store.specs.Stock.{Advert, Stock}
use Rattle.ad_store.specs.Store.{stock_of}
use Rattle.literal_index.specs.Shown.{IsKept}
use Rattle.ad_candidates.specs.Rows.{rows_of}
use Rattle.pool_books.specs.Adverts.{advert_of}
use Rattle.pool_books.specs.Stocks.{stock_without}
use Rattle.pool_books.proofs.AdLemmas.{stock-length}
use Rattle.pool_books.proofs.IndexLemmas.{on_err, others_kept, remembered}
use Rattle.pool_books.proofs.SmallLemmas.{small-put}
use Rattle.pool_books.proofs.WantingLemmas.{slot-behind, unless-held, where-held}
use Rattle.pool_books.proofs.indexed.IndexedStore.put.Goals as goal

pub remember-requires : goal.remember-requires
remember-requires g c =
    let p = c.put-put.ensures in
    let s = c.slot_behind-slot.ensures in
    slot-behind c.put-put.result c.slot_behind-slot.result c.forget-held.result c.args.advertised.name.now (stock_of c.args.self.now.store)
    (stock_of c.put-put.new.self) s.put s.held p.slot p.err c.forget-held.ensures.slot

pub invariant_of-self : goal.invariant_of-self
invariant_of-self g c =
    let name = c.args.advertised.name.now in
    let old : Stock = stock_of c.args.self.now.store in
    let put : Stock = stock_of c.put-put.new.self in
    let advert : Advert = advert_of c.args.advertised in
    let p = c.put-put.ensures in
    let same = others_kept c.put-put.result advert old put (stock-length c.args.self.now.store) p.ads p.slots p.added p.err in
    let others : IsKept c.args.self.now.index (rows_of old) → IsKept c.forget-held.new.index (rows_of (stock_without name put)) =
    λ kept. subst (λ (s : Stock). IsKept c.forget-held.new.index (rows_of s)) (sym same) (c.forget-held.ensures.others kept) in
    let r = c.remember.ensures in
    record {
      indexed =
          ∥∥₁_map c.args.self.now.indexed (λ kept. remembered c.remember.result c.remember.new.index name put (stock_of c.remember.new.store)
          (IsKept c.forget-held.new.index (rows_of (stock_without name put))) r.all r.same r.gone (others kept));
      small = r.small (small-put c.put-put.result advert old put p.ads p.err c.requires.small c.args.self.now.small);
    }

pub returns-then-is_err-clause-kept : goal.returns-then-is_err-clause-kept
returns-then-is_err-clause-kept g c =
    let old : Stock = stock_of c.args.self.now.store in
    let put : Stock = stock_of c.put-put.new.self in
    let advert : Advert = advert_of c.args.advertised in
    let p = c.put-put.ensures in
    let same = others_kept c.put-put.result advert old put (stock-length c.args.self.now.store) p.ads p.slots p.added p.err in
    let left = on_err c.remember.result _ (sym c.is_err.ensures.value ∙ c.if-is_err.true) c.remember.ensures.without ∙ same in
    unless-held c.forget-held.result c.args.advertised.name.now old (stock_of c.remember.new.store) (stock-length c.args.self.now.store)
    c.forget-held.ensures.slot left

pub returns-then-is_err-clause-gone : goal.returns-then-is_err-clause-gone
returns-then-is_err-clause-gone g c =
    let old : Stock = stock_of c.args.self.now.store in
    let put : Stock = stock_of c.put-put.new.self in
    let advert : Advert = advert_of c.args.advertised in
    let p = c.put-put.ensures in
    let same = others_kept c.put-put.result advert old put (stock-length c.args.self.now.store) p.ads p.slots p.added p.err in
    let left = on_err c.remember.result _ (sym c.is_err.ensures.value ∙ c.if-is_err.true) c.remember.ensures.without ∙ same in
    where-held c.forget-held.result c.args.advertised.name.now old (stock_of c.remember.new.store) c.forget-held.ensures.slot left
