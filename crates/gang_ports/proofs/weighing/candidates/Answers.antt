use Rattle.std.proofs.Common.{arith}
use Rattle.eval_scope.specs.Shown.{world_of}
use Rattle.gang_ports.specs.Search.{HasSidesIn}
use Rattle.gang_ports.proofs.SmallLemmas.{asked-small}
use Rattle.gang_ports.proofs.WeighLemmas.{asked-hold}
use Rattle.gang_ports.proofs.weighing.candidates.Goals as goal

pub weigh_all-requires-clause-tests : goal.weigh_all-requires-clause-tests
weigh_all-requires-clause-tests g c =
    let w = world_of c.args.world.now in
    let side = c.args.side.now in
    asked-hold w c.args.before.now (HasSidesIn w) (λ r kept h. h) side.is_free side.resources.items c.as_mut_slice-resources.result.now
    c.remember.new.resources c.as_mut_slice-resources.ensures.value c.remember.ensures c.requires.tests

pub returns-in_err-tries-clause-ratio : goal.returns-in_err-tries-clause-ratio
returns-in_err-tries-clause-ratio g c small are =
    let side = c.args.side.now in
    omega (
      arith,
      c.weigh_all.ensures.ratio small (asked-small (world_of c.args.world.now) c.args.before.now side.is_free side.resources.items
          c.as_mut_slice-resources.result.now c.remember.new.resources c.as_mut_slice-resources.ensures.value c.remember.ensures are),
    )

pub returns-clause-ratio : goal.returns-clause-ratio
returns-clause-ratio g c small are =
    let side = c.args.side.now in
    omega (
      arith,
      c.weigh_all.ensures.ratio small (asked-small (world_of c.args.world.now) c.args.before.now side.is_free side.resources.items
          c.as_mut_slice-resources.result.now c.remember.new.resources c.as_mut_slice-resources.ensures.value c.remember.ensures are),
    )
