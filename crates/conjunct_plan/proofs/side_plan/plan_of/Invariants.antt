use Rattle.std.proofs.Common.{◌≡◌, ◌++◌, ◌&&◌, drop, map}
use Rattle.std.specs.List.{filter_map, list_all}
use Rattle.ad_tree.specs.Ad.{ad_frames}
use Rattle.ad_tree.specs.Tree.{tree}
use Rattle.conjunct_plan.specs.Planned.{is_test}
use Rattle.conjunct_plan.specs.Seen.{test_seen}
use Rattle.conjunct_plan.specs.Tests.{labels_of, test_of}
use Rattle.conjunct_plan.proofs.side_plan.plan_of.Given as goal

abbrev pub invariant-loop-i : goal.invariant-loop-i
invariant-loop-i l = record {
  tests : map test_seen l.tests.items ++ filter_map (test_of (ad_frames l.ad) l.frame (labels_of l.ports)) (map (λ e. tree e.now) (drop l.i l.conjuncts.items))
      ≡ filter_map (test_of (ad_frames l.ad) l.frame (labels_of l.ports)) (map (λ e. tree e.now) l.conjuncts.items);
  whole : (l.is_whole && list_all (is_test (ad_frames l.ad) l.frame (labels_of l.ports)) (map (λ e. tree e.now) (drop l.i l.conjuncts.items)))
      ≡ list_all (is_test (ad_frames l.ad) l.frame (labels_of l.ports)) (map (λ e. tree e.now) l.conjuncts.items);
}
