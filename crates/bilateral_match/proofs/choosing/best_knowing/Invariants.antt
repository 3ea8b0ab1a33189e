use Rattle.std.proofs.Common.{◌≤◌, ◌+◌, ◌*◌, sum_by, take}
use Rattle.std.specs.List.{filter_map}
use Rattle.ad_tree.specs.Small.{IsSmall}
use Rattle.dock_match.specs.Small.{AreSmallAds, AreSmallHolders}
use Rattle.pool_steps.specs.Spent.{IsPaid, IsSame}
use Rattle.bilateral_match.specs.Known.{AreRanks, rank_expr}
use Rattle.bilateral_match.specs.Members.{IsBest}
use Rattle.bilateral_match.specs.Scan.{attributes_for, evaluations_for, member_at}
use Rattle.bilateral_match.specs.Scenes.{pool_in, request_in, stock_in}
use Rattle.bilateral_match.proofs.choosing.best_knowing.Given as goal

abbrev pub invariant-loop-place : goal.invariant-loop-place
invariant-loop-place g l =
    let pool = pool_in g.H.Holdings.is_offered g.H.Holdings.holding l.scene in
    let request = request_in l.scene in
    let ads = (stock_in l.scene).ads in
    record {
      first : IsBest (filter_map (member_at pool request l.scene.number) (take l.place-index l.place-items)) l.first;
      same : IsSame l.initial.meter l.meter;
      evaluations : l.meter.tops.now ≤ l.initial.meter.tops.now + sum_by (evaluations_for pool request) (take l.place-index l.place-items);
      entries : l.meter.entry.now ≤ l.initial.meter.entry.now + sum_by (attributes_for pool request) (take l.place-index l.place-items);
      ratio : IsSmall request → AreSmallAds ads → AreSmallHolders (g.H.Holdings.holding l.scene.held.now)
          → IsPaid l.initial.meter l.meter;
      looks : l.meter.touch.now ≤ l.initial.meter.touch.now + 9 * l.place-index;
      saved : l.meter.touch.now + l.looks.saved ≤ l.initial.meter.touch.now + l.initial.looks.saved + 9 * l.place-index;
      ranks : AreRanks l.scene.moment ads (rank_expr request) l.ranking.ranks.items;
    }
