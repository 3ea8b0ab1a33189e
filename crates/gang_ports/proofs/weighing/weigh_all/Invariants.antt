use Rattle.std.proofs.Common.{◌≡◌, ◌≤◌, ◌+◌, ◌*◌, ◌++◌, drop, map, sum_by, take}
use Rattle.std.specs.List.{filter_map}
use Rattle.eval_scope.specs.Shown.{world_of}
use Rattle.ad_eval.specs.Small.{AreSmall}
use Rattle.gang_ports.specs.Search.{attributes_of, candidate_in, evaluations_in, weighed_in}
use Rattle.gang_ports.specs.Small.{AreSmallResources}
use Rattle.gang_ports.proofs.weighing.weigh_all.Given as goal

-- the resources so far were weighed, and no others
abbrev pub invariant-loop-resource : goal.invariant-loop-resource
invariant-loop-resource g l =
    let w = world_of l.prefix.world.now in
    let start = l.initial.resources in
    let i = l.resource-index in
    record {
      tries : l.tries.items ≡ filter_map (candidate_in w l.prefix.before.now) (take i start);
      kept : l.resources ≡ map (weighed_in w l.prefix.before.now) (take i start) ++ drop i start;
      evaluations : l.tops ≤ l.initial.tops + sum_by (evaluations_in l.prefix.before.now) (take i start);
      entries : l.entry ≤ l.initial.entry + sum_by (attributes_of w l.prefix.before.now) (take i start);
      ratio : AreSmall w → AreSmallResources start → l.entry + 9216 * l.initial.tops ≤ l.initial.entry + 9216 * l.tops;
    }
