use Rattle.std.proofs.Common.{◌<◌, All, List, ℕ, ap, length, sym, subst, arith}
use Rattle.ad_tree.specs.Ad.{ad_frames}
use Rattle.ad_store.specs.Store.{stock_of}
use Rattle.bilateral_match.specs.Scan.{attributes_at, evaluations_at, match_at}
use Rattle.bilateral_match.proofs.LoopLemmas.{finds-all, finds-next, grows}
use Rattle.pool_steps.proofs.MeterLemmas.{same-on}
use Rattle.bilateral_match.proofs.MeterLemmas.{spent-ends, spent-stays}
use Rattle.bilateral_match.proofs.weighing.matches_at.Goals as goal

pub weigh-requires-clause-held : goal.weigh-requires-clause-held
weigh-requires-clause-held g c =
    let scene = c.args.scene.now in
    subst (λ (places : List ℕ). All (λ place. place < length (stock_of scene.store.now).slots) places) (sym c.as_slice-place-items.ensures) c.requires.held
    c.loop-place.place-index 0 c.loop-place-test.true

pub returns-in_err-weighed-clause-spent : goal.returns-in_err-weighed-clause-spent
returns-in_err-weighed-clause-spent g c =
    let scene = c.args.scene.now in
    let request = ad_frames scene.request.now.ad in
    let ads = (stock_of scene.store.now).ads in
    let so_far = c.loop-place.invariant in
    spent-stays (evaluations_at request ads) (attributes_at scene.moment request ads) c.as_slice-place-items.result.now c.args.places.now
    c.as_slice-place-items.ensures c.loop-place.place-index c.loop-place.place-index (length c.args.places.now) c.args.meter.now c.loop-place.meter
    so_far.same so_far.evaluations so_far.entries so_far.looks c.weigh.new.meter 1 c.loop-place-test.true
    (omega (arith, c.loop-place-test.true, ap length c.as_slice-place-items.ensures)) c.weigh.ensures.spent

pub returns-in_err-keep-clause-spent : goal.returns-in_err-keep-clause-spent
returns-in_err-keep-clause-spent g c =
    let scene = c.args.scene.now in
    let request = ad_frames scene.request.now.ad in
    let ads = (stock_of scene.store.now).ads in
    let so_far = c.loop-place.invariant in
    spent-stays (evaluations_at request ads) (attributes_at scene.moment request ads) c.as_slice-place-items.result.now c.args.places.now
    c.as_slice-place-items.ensures c.loop-place.place-index c.loop-place.place-index (length c.args.places.now) c.args.meter.now c.loop-place.meter
    so_far.same so_far.evaluations so_far.entries so_far.looks c.weigh.new.meter 1 c.loop-place-test.true
    (omega (arith, c.loop-place-test.true, ap length c.as_slice-place-items.ensures)) c.weigh.ensures.spent

pub returns-in_err-weighed-clause-ratio : goal.returns-in_err-weighed-clause-ratio
returns-in_err-weighed-clause-ratio g c request ads = omega (arith, c.loop-place.invariant.ratio request ads, c.weigh.ensures.ratio request ads)

pub returns-in_err-keep-clause-ratio : goal.returns-in_err-keep-clause-ratio
returns-in_err-keep-clause-ratio g c request ads = omega (arith, c.loop-place.invariant.ratio request ads, c.weigh.ensures.ratio request ads)

pub loop-place-preserved : goal.loop-place-preserved
loop-place-preserved g c =
    let scene = c.args.scene.now in
    let request = ad_frames scene.request.now.ad in
    let ads = (stock_of scene.store.now).ads in
    record {
      found = finds-next (match_at scene.moment request ads) c.as_slice-place-items.result.now c.loop-place.place-index
          c.loop-place.found.items c.keep.new.found.items c.in_ok-weighed.weighed c.loop-place-test.true c.loop-place.invariant.found
          c.in_ok-weighed.ensures.found c.in_ok-keep.ensures;
      same = same-on c.loop-place.invariant.same c.weigh.ensures.spent.same;
      evaluations = grows (evaluations_at request ads) c.as_slice-place-items.result.now c.args.places.now c.as_slice-place-items.ensures
          c.loop-place.place-index c.args.meter.now.tops.now c.loop-place.meter.tops.now c.weigh.new.meter.tops.now c.loop-place.invariant.evaluations
          c.loop-place-test.true c.weigh.ensures.spent.most_evaluations;
      entries = grows (attributes_at scene.moment request ads) c.as_slice-place-items.result.now c.args.places.now c.as_slice-place-items.ensures
          c.loop-place.place-index c.args.meter.now.entry.now c.loop-place.meter.entry.now c.weigh.new.meter.entry.now c.loop-place.invariant.entries
          c.loop-place-test.true c.weigh.ensures.spent.most_entries;
      ratio = λ small_request small_ads.
          omega (arith, c.loop-place.invariant.ratio small_request small_ads, c.weigh.ensures.ratio small_request small_ads);
      looks = omega (arith, c.loop-place.invariant.looks, c.weigh.ensures.looks);
    }

pub returns-clause-found : goal.returns-clause-found
returns-clause-found g c =
    let scene = c.args.scene.now in
    finds-all (match_at scene.moment (ad_frames scene.request.now.ad) (stock_of scene.store.now).ads) c.as_slice-place-items.result.now
    c.loop-place.place-index c.args.places.now
    c.loop-place.found.items c.as_slice-place-items.ensures c.loop-place-test.false c.loop-place.invariant.found

pub returns-clause-spent : goal.returns-clause-spent
returns-clause-spent g c =
    let scene = c.args.scene.now in
    let request = ad_frames scene.request.now.ad in
    let ads = (stock_of scene.store.now).ads in
    let so_far = c.loop-place.invariant in
    spent-ends (evaluations_at request ads) (attributes_at scene.moment request ads) c.as_slice-place-items.result.now c.args.places.now
    c.as_slice-place-items.ensures c.loop-place.place-index c.loop-place.place-index (length c.args.places.now) c.args.meter.now c.loop-place.meter
    so_far.same so_far.evaluations so_far.entries so_far.looks c.loop-place-test.false
    (omega (arith, c.loop-place.auto.place-index-end, ap length c.as_slice-place-items.ensures))
