use Rattle.std.proofs.Common.{◌-◌, length, map, not, sym, ◌∙◌, ap, arith}
use Rattle.std.proofs.lemmas.List.{drop_all}
use Rattle.std.proofs.lemmas.Option.{slice_get-get_or}
use Rattle.ad_store.specs.Stock.{Advert, Stock, is_live}
use Rattle.ad_store.specs.Store.{stock_of}
use Rattle.claim_table.specs.Table.{jobs_of}
use Rattle.significant_attrs.proofs.AddLemmas.{drop-next}
use Rattle.significant_attrs.proofs.ContainLemmas.{contains_at}
use Rattle.pool_books.specs.Books.{queue_of, queued}
use Rattle.pool_books.specs.Expiry.{has_expired}
use Rattle.pool_books.specs.Indexed.{ads_of}
use Rattle.pool_books.proofs.AdLemmas.{live-le, slot_beside-found, stock-length}
use Rattle.pool_books.proofs.ExpiryLemmas.{expired-none, first-beside, left-none, none-beside}
use Rattle.pool_books.proofs.books.Books.expire.Goals as goal

pub take_out-requires-clause-first : goal.take_out-requires-clause-first
take_out-requires-clause-first g c =
    let current : Stock = stock_of c.loop-slot.self.ads.store in
    let slots = c.as_slice-slot-items.result.now in
    let k = c.loop-slot.slot-index in
    let next = drop-next slots k _ (slice_get-get_or slots k 0 c.loop-slot-test.true) in
    first-beside (λ (a : Advert). not (is_live c.args.now a)) current.ads current.slots _ _ (c.loop-slot.invariant.left ∙ next)

pub take_out-requires-clause-held : goal.take_out-requires-clause-held
take_out-requires-clause-held g c =
    let current : Stock = stock_of c.loop-slot.self.ads.store in
    let ended = λ (a : Advert). not (is_live c.args.now a) in
    let found = slot_beside-found ended current.ads current.slots _ (take_out-requires-clause-first g c) in
    contains_at current.slots found.place _ found.slot_at

pub returns-in_err-take_out-clause-looks : goal.returns-in_err-take_out-clause-looks
returns-in_err-take_out-clause-looks g c =
    omega (
      arith,
      c.in_err-take_out.ensures.none,
      c.loop-slot.invariant.looks,
      live-le c.args.now (ads_of c.loop-slot.self.ads),
      ap length c.loop-slot.invariant.live,
    )

-- all ads are live at the end
pub returns-clause-ads : goal.returns-clause-ads
returns-clause-ads g c =
    let current : Stock = stock_of c.loop-slot.self.ads.store in
    let none = c.loop-slot.invariant.left ∙ drop_all c.loop-slot.slot-index c.as_slice-slot-items.result.now (omega (arith, c.loop-slot-test.false)) in
    ap (λ (s : Stock). s.ads) c.note_soonest.ensures
    ∙ sym (none-beside c.args.now current.ads current.slots (stock-length c.loop-slot.self.ads.store) none) ∙ c.loop-slot.invariant.live

pub returns-clause-jobs : goal.returns-clause-jobs
returns-clause-jobs g c =
    let now = c.args.now in
    let current : Stock = stock_of c.loop-slot.self.ads.store in
    let none = c.loop-slot.invariant.left ∙ drop_all c.loop-slot.slot-index c.as_slice-slot-items.result.now (omega (arith, c.loop-slot-test.false)) in
    let alive = none-beside now current.ads current.slots (stock-length c.loop-slot.self.ads.store) none in
    ap (λ stock. map (queued stock) (jobs_of c.loop-slot.self.claims)) c.note_soonest.ensures
    ∙ sym (left-none (has_expired now current.ads) (queue_of c.loop-slot.self) (expired-none now current.ads alive)) ∙ c.loop-slot.invariant.jobs

pub returns-clause-count : goal.returns-clause-count
returns-clause-count g c = λ k. c.len-before.ensures.ads k - (c.len.ensures.ads ∙ ap length (returns-clause-ads g c)) k

pub returns-clause-looks : goal.returns-clause-looks
returns-clause-looks g c =
    let left = ap length (sym (ap (λ (s : Stock). s.ads) c.note_soonest.ensures) ∙ returns-clause-ads g c) in
    omega (arith, c.loop-slot.invariant.looks, left, live-le c.args.now (ads_of c.args.self.now.ads))
