use Rattle.std.proofs.Common.{◌≡◌, ◌≤◌, ◌+◌, sum_by, take}
use Rattle.std.specs.List.{filter_map}
use Rattle.ad_tree.specs.Ad.{ad_frames}
use Rattle.ad_tree.specs.Small.{IsSmall}
use Rattle.ad_store.specs.Store.{stock_of}
use Rattle.dock_match.specs.Small.{AreSmallAds}
use Rattle.pool_steps.specs.Spent.{IsPaid, IsSame}
use Rattle.bilateral_match.specs.Scan.{attributes_at, evaluations_at, match_at}
use Rattle.bilateral_match.proofs.weighing.matches_at.Given as goal

abbrev pub invariant-loop-place : goal.invariant-loop-place
invariant-loop-place g l =
    let request = ad_frames l.scene.request.now.ad in
    let ads = (stock_of l.scene.store.now).ads in
    record {
      found : l.found.items ≡ filter_map (match_at l.scene.moment request ads) (take l.place-index l.place-items);
      same : IsSame l.initial.meter l.meter;
      evaluations : l.meter.tops.now ≤ l.initial.meter.tops.now + sum_by (evaluations_at request ads) (take l.place-index l.place-items);
      entries : l.meter.entry.now ≤ l.initial.meter.entry.now + sum_by (attributes_at l.scene.moment request ads) (take l.place-index l.place-items);
      ratio : IsSmall request → AreSmallAds ads → IsPaid l.initial.meter l.meter;
      looks : l.meter.touch.now ≤ l.initial.meter.touch.now + l.place-index;
    }
