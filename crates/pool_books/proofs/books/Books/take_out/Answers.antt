use Rattle.std.proofs.Common.{◌||◌, ◌∷◌, not, bytes_eq, List, sym, ◌∙◌, ap}
use Rattle.ad_store.specs.Stock.{Advert, is_live, slots_beside, without}
use Rattle.ad_store.specs.Store.{stock_of}
use Rattle.pool_books.specs.Books.{queue_of}
use Rattle.pool_books.specs.Expiry.{has_expired, live_ads}
use Rattle.pool_books.specs.Indexed.{ads_of}
use Rattle.pool_books.specs.Queue.{without_resources}
use Rattle.pool_books.proofs.AdLemmas.{has_at, live-without, not_live, own_name, shorter, slot_beside-found}
use Rattle.pool_books.proofs.ExpiryLemmas.{expired-without, left-same, left-twice, others-beside}
use Rattle.pool_books.proofs.books.Books.take_out.Goals as goal

pub returns-clause-live : goal.returns-clause-live
returns-clause-live g c =
    let old = stock_of c.args.self.now.ads.store in
    let beside = slot_beside-found (λ a. not (is_live c.args.now a)) old.ads old.slots c.args.slot c.requires.first in
    let used = c.bytes.result.now in
    let name =
    own_name old.ads beside.place beside.advert c.name.result.now beside.at (c.name.ensures beside.place beside.slot_at) ∙ sym c.in_ok-name.ensures.text
    ∙ sym c.bytes.ensures in
    ap (λ (ads : List Advert). live_ads c.args.now ads) c.in_ok-withdraw.ensures.ads
    ∙ live-without c.args.now used old.ads beside.place beside.advert c.names_are_apart.ensures beside.at name
    (not_live (is_live c.args.now beside.advert) beside.passes)

pub returns-clause-jobs : goal.returns-clause-jobs
returns-clause-jobs g c =
    let now = c.args.now in
    let old = stock_of c.args.self.now.ads.store in
    let queue = queue_of c.args.self.now in
    let beside = slot_beside-found (λ a. not (is_live now a)) old.ads old.slots c.args.slot c.requires.first in
    let used = c.bytes.result.now in
    let name =
    own_name old.ads beside.place beside.advert c.name.result.now beside.at (c.name.ensures beside.place beside.slot_at) ∙ sym c.in_ok-name.ensures.text
    ∙ sym c.bytes.ensures in
    let held = c.in_ok-withdraw.ensures.held ∙ has_at used old.ads beside.place beside.advert beside.at name in
    (λ i. without_resources (has_expired now (c.in_ok-withdraw.ensures.ads i)) (c.in_ok-withdraw.ensures.jobs held i))
    ∙ left-twice (has_expired now (without used old.ads)) (bytes_eq used) queue
    ∙ left-same (λ n. bytes_eq used n || has_expired now (without used old.ads) n) (has_expired now old.ads) queue
    (λ n. sym (expired-without now used old.ads beside.place beside.advert c.names_are_apart.ensures beside.at name
    (not_live (is_live now beside.advert) beside.passes) n))

pub returns-clause-fewer : goal.returns-clause-fewer
returns-clause-fewer g c =
    let old = stock_of c.args.self.now.ads.store in
    let beside = slot_beside-found (λ a. not (is_live c.args.now a)) old.ads old.slots c.args.slot c.requires.first in
    let used = c.bytes.result.now in
    let name =
    own_name old.ads beside.place beside.advert c.name.result.now beside.at (c.name.ensures beside.place beside.slot_at) ∙ sym c.in_ok-name.ensures.text
    ∙ sym c.bytes.ensures in
    let held = has_at used old.ads beside.place beside.advert beside.at name in
    shorter (ads_of c.withdraw.new.self.ads) old.ads used c.in_ok-withdraw.ensures.ads held

pub returns-clause-others : goal.returns-clause-others
returns-clause-others g c =
    let now = c.args.now in
    let old = stock_of c.args.self.now.ads.store in
    let new = stock_of c.withdraw.new.self.ads.store in
    let ended = λ (a : Advert). not (is_live now a) in
    let beside = slot_beside-found ended old.ads old.slots c.args.slot c.requires.first in
    let used = c.bytes.result.now in
    let name =
    own_name old.ads beside.place beside.advert c.name.result.now beside.at (c.name.ensures beside.place beside.slot_at)
    ∙ sym c.in_ok-name.ensures.text ∙ sym c.bytes.ensures
    in
    let held = c.in_ok-withdraw.ensures.held ∙ has_at used old.ads beside.place beside.advert beside.at name in
    others-beside ended old.ads old.slots c.args.slot used beside.place beside.advert c.names_are_apart.ensures beside.at name
    beside.passes c.requires.first beside.found
    ∙ (λ k. c.args.slot ∷ slots_beside ended ((sym c.in_ok-withdraw.ensures.ads) k) ((sym (c.in_ok-withdraw.ensures.slots held)) k))
