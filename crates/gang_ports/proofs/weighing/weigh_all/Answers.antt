use Rattle.std.proofs.Common.{◌≡◌, ◌<◌, ◌≤◌, ◌+◌, ◌*◌, length, get_or, set, ap, sym, ◌∙◌, subst, arith}
use Rattle.std.proofs.lemmas.List.Edits.{map_over_more}
use Rattle.eval_scope.specs.Shown.{world_of}
use Rattle.ad_eval.specs.Small.{AreSmall}
use Rattle.gang_ports.specs.declared.weighing.Resource.{Resource}
use Rattle.gang_ports.specs.Search.{HasSidesIn, attributes_of, candidate_in, evaluations_in, weighed_in}
use Rattle.gang_ports.specs.Small.{AreSmallResources}
use Rattle.gang_ports.proofs.CandidateLemmas.{found-all, found-next, front-all, item-at, item-hold}
use Rattle.gang_ports.proofs.ListLemmas.{count-all, count-next, count-within}
use Rattle.gang_ports.proofs.SmallLemmas.{HasSmall}
use Rattle.gang_ports.proofs.weighing.weigh_all.Given.{Over}
use Rattle.gang_ports.proofs.weighing.weigh_all.Goals.{After-resource-item, After-weigh}
use Rattle.gang_ports.proofs.weighing.weigh_all.Goals as goal

-- ---- what is known of the resource that the loop is at

within : (g : Over) (c : After-resource-item g) → c.loop-resource.resource-index < length c.args.resources.now
within g c = omega (arith, c.loop-resource-test.true, c.loop-resource.auto.resource-index-end, c.loop-resource.auto.resources)

item-is : (g : Over) (c : After-resource-item g)
    → c.resource-item.result ≡ get_or c.args.resources.now c.loop-resource.resource-index c.resource-item.result
item-is g c =
    item-at (weighed_in (world_of c.args.prefix.now.world.now) c.args.prefix.now.before.now) c.args.resources.now c.loop-resource.resources
    c.loop-resource.resource-index
    c.resource-item.result c.resource-item.is c.loop-resource.invariant.kept

-- what weighing it took
evaluations : (g : Over) (c : After-weigh g) → c.weigh.new.tops ≤ c.loop-resource.tops + evaluations_in c.args.prefix.now.before.now c.resource-item.result
evaluations g c =
    subst (λ (r : Resource). c.weigh.new.tops ≤ c.loop-resource.tops + evaluations_in c.args.prefix.now.before.now r) (sym c.resource-item.is)
    c.weigh.ensures.evaluations

entries : (g : Over) (c : After-weigh g)
    → c.weigh.new.entry ≤ c.loop-resource.entry + attributes_of (world_of c.args.prefix.now.world.now) c.args.prefix.now.before.now c.resource-item.result
entries g c =
    subst (λ (r : Resource). c.weigh.new.entry ≤ c.loop-resource.entry + attributes_of (world_of c.args.prefix.now.world.now) c.args.prefix.now.before.now r)
    (sym c.resource-item.is) c.weigh.ensures.entries

ratio : (g : Over) (c : After-weigh g) → AreSmall (world_of c.args.prefix.now.world.now) → AreSmallResources c.args.resources.now
    → c.weigh.new.entry + 9216 * c.args.tops.now ≤ c.args.entry.now + 9216 * c.weigh.new.tops
ratio g c small are =
    let here : c.loop-resource.resource-index < length c.args.resources.now =
    omega (arith, c.loop-resource-test.true, c.loop-resource.auto.resource-index-end, c.loop-resource.auto.resources) in
    let fits = item-hold HasSmall (weighed_in (world_of c.args.prefix.now.world.now) c.args.prefix.now.before.now) c.args.resources.now
    c.loop-resource.resources
    c.loop-resource.resource-index c.resource-item.result here c.resource-item.is c.loop-resource.invariant.kept are in
    omega (arith, c.loop-resource.invariant.ratio small are, c.weigh.ensures.ratio small fits)

-- ---- the goals

pub weigh-requires-clause-tests : goal.weigh-requires-clause-tests
weigh-requires-clause-tests g c =
    let w = world_of c.args.prefix.now.world.now in
    item-hold (HasSidesIn w) (weighed_in w c.args.prefix.now.before.now) c.args.resources.now c.loop-resource.resources c.loop-resource.resource-index
    c.resource-item.result (within g (goal.at.weigh-requires-clause-tests g c).After-resource-item) c.resource-item.is c.loop-resource.invariant.kept
    c.requires.tests

pub returns-in_err-found-clause-evaluations : goal.returns-in_err-found-clause-evaluations
returns-in_err-found-clause-evaluations g c =
    let p = goal.at.returns-in_err-found-clause-evaluations g c in
    count-within (evaluations_in c.args.prefix.now.before.now) c.args.resources.now c.loop-resource.resource-index c.args.tops.now c.loop-resource.tops
    c.loop-resource.invariant.evaluations c.resource-item.result c.weigh.new.tops (within g p.After-resource-item) (item-is g p.After-resource-item)
    (evaluations g p.After-weigh)

pub returns-in_err-found-clause-entries : goal.returns-in_err-found-clause-entries
returns-in_err-found-clause-entries g c =
    let p = goal.at.returns-in_err-found-clause-entries g c in
    count-within (attributes_of (world_of c.args.prefix.now.world.now) c.args.prefix.now.before.now) c.args.resources.now c.loop-resource.resource-index
    c.args.entry.now
    c.loop-resource.entry c.loop-resource.invariant.entries c.resource-item.result c.weigh.new.entry (within g p.After-resource-item)
    (item-is g p.After-resource-item) (entries g p.After-weigh)

pub returns-in_err-found-clause-ratio : goal.returns-in_err-found-clause-ratio
returns-in_err-found-clause-ratio g c = ratio g (goal.at.returns-in_err-found-clause-ratio g c).After-weigh

pub returns-in_err-keep-clause-evaluations : goal.returns-in_err-keep-clause-evaluations
returns-in_err-keep-clause-evaluations g c =
    let p = goal.at.returns-in_err-keep-clause-evaluations g c in
    count-within (evaluations_in c.args.prefix.now.before.now) c.args.resources.now c.loop-resource.resource-index c.args.tops.now c.loop-resource.tops
    c.loop-resource.invariant.evaluations c.resource-item.result c.weigh.new.tops (within g p.After-resource-item) (item-is g p.After-resource-item)
    (evaluations g p.After-weigh)

pub returns-in_err-keep-clause-entries : goal.returns-in_err-keep-clause-entries
returns-in_err-keep-clause-entries g c =
    let p = goal.at.returns-in_err-keep-clause-entries g c in
    count-within (attributes_of (world_of c.args.prefix.now.world.now) c.args.prefix.now.before.now) c.args.resources.now c.loop-resource.resource-index
    c.args.entry.now
    c.loop-resource.entry c.loop-resource.invariant.entries c.resource-item.result c.weigh.new.entry (within g p.After-resource-item)
    (item-is g p.After-resource-item) (entries g p.After-weigh)

pub returns-in_err-keep-clause-ratio : goal.returns-in_err-keep-clause-ratio
returns-in_err-keep-clause-ratio g c = ratio g (goal.at.returns-in_err-keep-clause-ratio g c).After-weigh

pub loop-resource-preserved : goal.loop-resource-preserved
loop-resource-preserved g c =
    let w = world_of c.args.prefix.now.world.now in
    let before = c.args.prefix.now.before.now in
    let start = c.args.resources.now in
    let now = c.loop-resource.resources in
    let i = c.loop-resource.resource-index in
    let item = c.resource-item.result in
    let p = goal.at.loop-resource-preserved g c in
    let low = within g p.After-resource-item in
    let at = item-is g p.After-resource-item in
    record {
      tries =
          found-next (candidate_in w before) start i item c.loop-resource.tries.items c.keep.new.tries.items c.in_ok-found.found low at
          c.loop-resource.invariant.tries (c.in_ok-found.ensures.found ∙ ap (candidate_in w before) (sym c.resource-item.is)) c.in_ok-keep.ensures;
      kept =
          ap (λ (r : Resource). set now i r) (c.in_ok-found.ensures.kept ∙ ap (weighed_in w before) (sym c.resource-item.is))
          ∙ map_over_more (weighed_in w before) start now i item low c.loop-resource.invariant.kept c.resource-item.is;
      evaluations =
          count-next (evaluations_in before) start i c.args.tops.now c.loop-resource.tops c.loop-resource.invariant.evaluations item c.weigh.new.tops
          low at (evaluations g p.After-weigh);
      entries =
          count-next (attributes_of w before) start i c.args.entry.now c.loop-resource.entry c.loop-resource.invariant.entries item
          c.weigh.new.entry low at (entries g p.After-weigh);
      ratio = ratio g p.After-weigh;
    }

pub returns-clause-tries : goal.returns-clause-tries
returns-clause-tries g c =
    found-all (candidate_in (world_of c.args.prefix.now.world.now) c.args.prefix.now.before.now) c.args.resources.now c.loop-resource.resource-index
    c.loop-resource.tries.items (omega (arith, c.loop-resource-test.false, c.loop-resource.auto.resource-index-end, c.loop-resource.auto.resources))
    c.loop-resource.invariant.tries

pub returns-clause-kept : goal.returns-clause-kept
returns-clause-kept g c =
    c.loop-resource.invariant.kept
    ∙ front-all (weighed_in (world_of c.args.prefix.now.world.now) c.args.prefix.now.before.now) c.args.resources.now c.loop-resource.resource-index
    (omega (arith, c.loop-resource-test.false, c.loop-resource.auto.resource-index-end, c.loop-resource.auto.resources))

pub returns-clause-evaluations : goal.returns-clause-evaluations
returns-clause-evaluations g c =
    count-all (evaluations_in c.args.prefix.now.before.now) c.args.resources.now c.loop-resource.resource-index c.args.tops.now c.loop-resource.tops
    c.loop-resource.invariant.evaluations (omega (arith, c.loop-resource-test.false, c.loop-resource.auto.resource-index-end, c.loop-resource.auto.resources))

pub returns-clause-entries : goal.returns-clause-entries
returns-clause-entries g c =
    count-all (attributes_of (world_of c.args.prefix.now.world.now) c.args.prefix.now.before.now) c.args.resources.now c.loop-resource.resource-index
    c.args.entry.now
    c.loop-resource.entry c.loop-resource.invariant.entries
    (omega (arith, c.loop-resource-test.false, c.loop-resource.auto.resource-index-end, c.loop-resource.auto.resources))

pub returns-clause-ratio : goal.returns-clause-ratio
returns-clause-ratio g c small are = omega (arith, c.loop-resource.invariant.ratio small are)
