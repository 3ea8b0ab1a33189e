use Rattle.std.proofs.Common.{sym}
use Rattle.ad_tree.specs.Ad.{ad_frames}
use Rattle.ad_tree.specs.Tree.{tree}
use Rattle.ad_store.specs.Stock.{is_named}
use Rattle.ad_store.specs.Store.{stock_of}
use Rattle.dock_match.proofs.SmallLemmas.{found-small}
use Rattle.pool_books.proofs.AdLemmas.{slot_beside-found, slot_beside-none, stock-length}
use Rattle.pool_commands.specs.Ads.{ad_named}
use Rattle.pool_commands.proofs.AdLemmas.{own_frames}
use Rattle.pool_commands.proofs.StepLemmas.{beside-found, beside-unknown}
use Rattle.pool_commands.proofs.expressions.eval_beside.Goals as goal

pub returns-in_default-clause-reply : goal.returns-in_default-clause-reply
returns-in_default-clause-reply g c =
    let old = stock_of c.args.store.now in
    beside-unknown c.args.moment (ad_frames c.args.phrase.now.ad) (tree c.args.phrase.now.expr) (ad_named c.args.name.now old.ads)
    (slot_beside-none (is_named c.args.name.now) old.ads old.slots (stock-length c.args.store.now) (sym c.in_default.ensures.slot))

pub returns-clause-reply : goal.returns-clause-reply
returns-clause-reply g c =
    let old = stock_of c.args.store.now in
    let beside = slot_beside-found (is_named c.args.name.now) old.ads old.slots c.in-Some.slot (sym c.in-Some.ensures.slot) in
    let frames = ad_frames c.look-ad.result.now in
    beside-found c.args.moment (ad_frames c.args.phrase.now.ad) (tree c.args.phrase.now.expr) (ad_named c.args.name.now old.ads) beside.advert frames
    c.in_ok-text.text beside.found (own_frames old.ads beside.place beside.advert frames beside.at (c.look-ad.ensures.ad beside.place beside.slot_at))
    c.in_ok-text.ensures.text

pub returns-in_err-text-clause-ratio : goal.returns-in_err-text-clause-ratio
returns-in_err-text-clause-ratio g c request small =
    let old = stock_of c.args.store.now in
    let beside = slot_beside-found (is_named c.args.name.now) old.ads old.slots c.in-Some.slot (sym c.in-Some.ensures.slot) in
    c.value_beside.ensures.ratio request (found-small old.ads beside.place (ad_frames c.look-ad.result.now) small
    (c.look-ad.ensures.ad beside.place beside.slot_at))

pub returns-clause-ratio : goal.returns-clause-ratio
returns-clause-ratio g c request small =
    let old = stock_of c.args.store.now in
    let beside = slot_beside-found (is_named c.args.name.now) old.ads old.slots c.in-Some.slot (sym c.in-Some.ensures.slot) in
    c.value_beside.ensures.ratio request (found-small old.ads beside.place (ad_frames c.look-ad.result.now) small
    (c.look-ad.ensures.ad beside.place beside.slot_at))
