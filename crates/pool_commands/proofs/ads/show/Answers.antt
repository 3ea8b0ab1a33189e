use Rattle.std.proofs.Common.{sym}
use Rattle.ad_tree.specs.Ad.{ad_frames}
use Rattle.ad_store.specs.Stock.{is_named}
use Rattle.ad_store.specs.Store.{stock_of}
use Rattle.pool_books.proofs.AdLemmas.{slot_beside-found, slot_beside-none, stock-length}
use Rattle.pool_commands.proofs.AdLemmas.{own_frames}
use Rattle.pool_commands.proofs.StepLemmas.{show-found, show-unknown}
use Rattle.pool_commands.proofs.ads.show.Goals as goal

pub returns-in_default-clause-reply : goal.returns-in_default-clause-reply
returns-in_default-clause-reply g c =
    let old = stock_of c.args.store.now in
    show-unknown c.args.name.now old.ads (slot_beside-none (is_named c.args.name.now) old.ads old.slots (stock-length c.args.store.now)
    (sym c.in_default.ensures.slot))

pub returns-clause-reply : goal.returns-clause-reply
returns-clause-reply g c =
    let old = stock_of c.args.store.now in
    let beside = slot_beside-found (is_named c.args.name.now) old.ads old.slots c.in-Some.slot (sym c.in-Some.ensures.slot) in
    show-found c.args.name.now old.ads beside.advert (ad_frames c.look.result.now) c.in_ok-print_ad.field-0 beside.found
    (own_frames old.ads beside.place beside.advert (ad_frames c.look.result.now) beside.at (c.look.ensures.ad beside.place beside.slot_at))
    c.in_ok-print_ad.ensures
