use Rattle.std.proofs.Common.{◌<◌, List, ℕ, arith, get_or, length-take, subst, sym, take}
use Rattle.ad_store.specs.Store.{stock_of}
use Rattle.ad_tree.specs.Ad.{ad_frames}
use Rattle.conjunct_plan.specs.Tests.{conjuncts_at}
use Rattle.match_explain.proofs.CountLemmas.{holds-few}
use Rattle.match_explain.proofs.ReportLemmas.{counts-now, evaluations-next, evaluations-stay, found-small, verdicts-next}
use Rattle.match_explain.proofs.explaining.verdicts.Goals as goal

pub judge-requires-clause-room : goal.judge-requires-clause-room
judge-requires-clause-room g c k =
    let request = ad_frames c.args.question.now.request.now.ad in
    let ads = (stock_of c.args.store.now).ads in
    let few = holds-few c.args.question.now.moment request (take c.loop-place.place ads) (conjuncts_at request 0) k in
    subst (λ (ns : List ℕ). get_or ns k 0 < 18446744073709551615) (sym c.loop-place.invariant.counts)
    (omega (arith, few, length-take c.loop-place.place ads, c.loop-place-test.true, c.len-place-end.ensures.few))

pub returns-in_err-verdict-clause-evaluations : goal.returns-in_err-verdict-clause-evaluations
returns-in_err-verdict-clause-evaluations g c =
    let request = ad_frames c.args.question.now.request.now.ad in
    let ads = (stock_of c.args.store.now).ads in
    evaluations-stay c.args.question.now.moment request ads c.loop-place.place (ad_frames c.look-ad.result.now)
    (c.look-ad.ensures.ad c.loop-place.place c.at.ensures.place)
    c.args.meter.now.tops.now c.loop-place.meter.tops.now c.judge.new.tops c.loop-place.invariant.evaluations c.judge.ensures.evaluations

pub returns-in_err-verdict-clause-ratio : goal.returns-in_err-verdict-clause-ratio
returns-in_err-verdict-clause-ratio g c small_request small_ads =
    let ads = (stock_of c.args.store.now).ads in
    let small_ad = found-small ads c.loop-place.place (ad_frames c.look-ad.result.now) small_ads (c.look-ad.ensures.ad c.loop-place.place c.at.ensures.place) in
    omega (arith, c.loop-place.invariant.ratio small_request small_ads, c.judge.ensures.ratio small_request small_ad)

pub returns-in_err-push-clause-evaluations : goal.returns-in_err-push-clause-evaluations
returns-in_err-push-clause-evaluations g c =
    let request = ad_frames c.args.question.now.request.now.ad in
    let ads = (stock_of c.args.store.now).ads in
    evaluations-stay c.args.question.now.moment request ads c.loop-place.place (ad_frames c.look-ad.result.now)
    (c.look-ad.ensures.ad c.loop-place.place c.at.ensures.place)
    c.args.meter.now.tops.now c.loop-place.meter.tops.now c.judge.new.tops c.loop-place.invariant.evaluations c.judge.ensures.evaluations

pub returns-in_err-push-clause-ratio : goal.returns-in_err-push-clause-ratio
returns-in_err-push-clause-ratio g c small_request small_ads =
    let ads = (stock_of c.args.store.now).ads in
    let small_ad = found-small ads c.loop-place.place (ad_frames c.look-ad.result.now) small_ads (c.look-ad.ensures.ad c.loop-place.place c.at.ensures.place) in
    omega (arith, c.loop-place.invariant.ratio small_request small_ads, c.judge.ensures.ratio small_request small_ad)

pub loop-place-preserved : goal.loop-place-preserved
loop-place-preserved g c =
    let request = ad_frames c.args.question.now.request.now.ad in
    let moment = c.args.question.now.moment in
    let ads = (stock_of c.args.store.now).ads in
    let place = c.loop-place.place in
    let fs = ad_frames c.look-ad.result.now in
    let is = c.look-ad.ensures.ad place c.at.ensures.place in
    record {
      verdicts =
          verdicts-next moment request ads place fs is c.loop-place.verdicts c.push.new.self c.in_ok-verdict.verdict c.loop-place.invariant.verdicts
          c.in_ok-verdict.ensures.verdict c.in_ok-push.ensures.ok;
      counts =
          counts-now moment request ads place fs is (conjuncts_at request 0) c.loop-place.counts c.judge.new.counts c.loop-place.invariant.counts
          c.in_ok-verdict.ensures.counts;
      same = record { tops = c.loop-place.invariant.same.tops; entry = c.loop-place.invariant.same.entry; touch = c.loop-place.invariant.same.touch };
      evaluations =
          evaluations-next moment request ads place fs is c.args.meter.now.tops.now c.loop-place.meter.tops.now c.judge.new.tops
          c.loop-place.invariant.evaluations c.judge.ensures.evaluations;
      ratio =
          λ small_request small_ads. omega (
            arith,
            c.loop-place.invariant.ratio small_request small_ads,
            c.judge.ensures.ratio small_request (found-small ads place fs small_ads is),
          );
      looks = omega (arith, c.loop-place.invariant.looks, c.look-ad.ensures.counted);
    }
