use Rattle.std.proofs.Common.{◌≡◌, ◌<◌, All, List, length, map, ap, arith, subst, sym, ◌∙◌}
use Rattle.std.proofs.lemmas.Result.{IfOk-weaker}
use Rattle.ad_tree.specs.Ad.{ad_frames}
use Rattle.ad_store.specs.Store.{stock_of}
use Rattle.bilateral_match.specs.declared.hit.Match.{Match}
use Rattle.bilateral_match.specs.Answers.{AreHits, answers, hit_of}
use Rattle.bilateral_match.proofs.ScanLemmas.{attributes-sum, evaluations-sum, found-at, sorted-answers}
use Rattle.bilateral_match.proofs.querying.query.Goals as goal

pub returns-in_err-found-clause-evaluations : goal.returns-in_err-found-clause-evaluations
returns-in_err-found-clause-evaluations g c =
    omega (
      arith,
      c.new-meter.ensures.tops.1,
      c.matches_at.ensures.spent.most_evaluations,
      evaluations-sum c.args.moment (ad_frames c.args.request.now.ad) (stock_of
          c.args.store.now).ads c.in_ok-places.places c.in_ok-places.ensures.places,
    )

pub returns-in_err-found-clause-entries : goal.returns-in_err-found-clause-entries
returns-in_err-found-clause-entries g c =
    omega (
      arith,
      c.new-meter.ensures.entry.1,
      c.matches_at.ensures.spent.most_entries,
      attributes-sum c.args.moment (ad_frames c.args.request.now.ad) (stock_of
          c.args.store.now).ads c.in_ok-places.places c.in_ok-places.ensures.places,
    )

pub returns-in_err-found-clause-looks : goal.returns-in_err-found-clause-looks
returns-in_err-found-clause-looks g c = omega (arith, c.new-meter.ensures.touch.1, c.matches_at.ensures.spent.most_looks, c.in_ok-places.ensures.places.few)

pub returns-clause-evaluations : goal.returns-clause-evaluations
returns-clause-evaluations g c =
    omega (
      arith,
      c.new-meter.ensures.tops.1,
      c.matches_at.ensures.spent.most_evaluations,
      evaluations-sum c.args.moment (ad_frames c.args.request.now.ad) (stock_of
          c.args.store.now).ads c.in_ok-places.places c.in_ok-places.ensures.places,
    )

pub returns-clause-entries : goal.returns-clause-entries
returns-clause-entries g c =
    omega (
      arith,
      c.new-meter.ensures.entry.1,
      c.matches_at.ensures.spent.most_entries,
      attributes-sum c.args.moment (ad_frames c.args.request.now.ad) (stock_of
          c.args.store.now).ads c.in_ok-places.places c.in_ok-places.ensures.places,
    )

pub returns-clause-looks : goal.returns-clause-looks
returns-clause-looks g c = omega (arith, c.new-meter.ensures.touch.1, c.matches_at.ensures.spent.most_looks, c.in_ok-places.ensures.places.few)

pub hits_in_order-requires : goal.hits_in_order-requires
hits_in_order-requires g c =
    let stock = stock_of c.args.store.now in
    let found =
    found-at c.args.moment (ad_frames c.args.request.now.ad) stock.ads (λ place. place < length stock.slots) c.in_ok-places.places
    c.in_ok-places.ensures.held in
    subst (λ (ms : List Match). All (λ (m : Match). m.place < length stock.slots) ms) (sym c.in_ok-found.ensures.found) found

pub returns-clause-hits : goal.returns-clause-hits
returns-clause-hits g c =
    let r = ad_frames c.args.request.now.ad in
    let stock = stock_of c.args.store.now in
    let found = c.in_ok-found.found.items in
    IfOk-weaker c.hits_in_order.result (AreHits stock.slots found) (λ hits. hits ≡ map (hit_of stock.slots) (answers c.args.moment r stock.ads))
    (λ hits (sorted, moved, ordered, are).
    are ∙ ap (map (hit_of stock.slots)) (sorted-answers c.args.moment r stock.ads c.in_ok-places.places c.in_ok-places.ensures.places found sorted
    c.in_ok-found.ensures.found moved ordered))
    c.hits_in_order.ensures
