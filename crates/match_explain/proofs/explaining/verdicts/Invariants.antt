use Rattle.std.proofs.Common.{◌≡◌, ◌≤◌, ◌+◌, All, map, take}
use Rattle.pool_steps.specs.Spent.{IsPaid, IsSame}
use Rattle.ad_store.specs.Store.{stock_of}
use Rattle.ad_tree.specs.Ad.{ad_frames}
use Rattle.ad_tree.specs.Small.{IsSmall}
use Rattle.conjunct_plan.specs.Tests.{conjuncts_at}
use Rattle.match_explain.specs.Counted.{evaluations_most}
use Rattle.match_explain.specs.Why as why
use Rattle.match_explain.proofs.explaining.verdicts.Given as goal

abbrev pub invariant-loop-place : goal.invariant-loop-place
invariant-loop-place g l = record {
  verdicts : l.verdicts ≡ why.verdicts l.question.moment (ad_frames l.question.request.now.ad) (take l.place (stock_of l.store).ads);
  counts : l.counts ≡ map (why.holding l.question.moment (ad_frames l.question.request.now.ad) (take l.place (stock_of l.store).ads)) (conjuncts_at
      (ad_frames l.question.request.now.ad) 0);
  same : IsSame l.initial.meter l.meter;
  evaluations : l.meter.tops.now ≤ l.initial.meter.tops.now + evaluations_most (ad_frames l.question.request.now.ad) (take l.place (stock_of l.store).ads);
  ratio : IsSmall (ad_frames l.question.request.now.ad) → All (λ advert. IsSmall advert.ad) (stock_of l.store).ads
      → IsPaid l.initial.meter l.meter;
  looks : l.meter.touch.now ≤ l.initial.meter.touch.now + l.place;
}
