use Rattle.std.proofs.Common.{◌≡◌, ◌+◌, All, Contains, IfOk, Option, subst, take}
use Rattle.std.proofs.lemmas.List.Elements.{All-take}
use Rattle.ad_tree.specs.Ad.{ad_frames}
use Rattle.ad_tree.specs.Small.{IsSmall}
use Rattle.ad_store.specs.Store.{stock_of}
use Rattle.eval_scope.specs.Shown.{world_of}
use Rattle.dock_match.specs.declared.preemption.Preemption.{Preemption}
use Rattle.dock_match.proofs.PreemptionLemmas.{some-of, won-of-holder}
use Rattle.dock_match.proofs.SmallLemmas.{slots-small}
use Rattle.dock_match.proofs.preemption.won_from.Goals as goal

pub slots_world-world-requires-clause-stored : goal.slots_world-world-requires-clause-stored
slots_world-world-requires-clause-stored g c =
    All-take (Contains (stock_of c.args.store.now).slots) (c.in-Some.holder.port + 1) c.in-Some.holder.slots.now
    (some-of c.args.holder c.in-Some.holder (λ h. All (Contains (stock_of c.args.store.now).slots) h.slots.now) c.in-Some.is c.requires.stored)

pub returns-clause-won : goal.returns-clause-won
returns-clause-won g c =
    let w = world_of c.slots_world-world.result in
    subst (λ (won : Option Preemption). IfOk c.taken_from.result (λ p. p ≡ won))
    (won-of-holder c.args.moment (stock_of c.args.store.now) c.args.holder c.in-Some.holder w c.args.claimant.number c.args.claimant.rank c.in-Some.is
    c.slots_world-world.ensures.world)
    c.taken_from.ensures.taken

pub returns-clause-ratio : goal.returns-clause-ratio
returns-clause-ratio g c small ads =
    let holder = c.in-Some.holder in
    c.taken_from.ensures.ratio
    (slots-small c.args.moment (stock_of c.args.store.now) holder.request.now (take (holder.port + 1) holder.slots.now) (world_of c.slots_world-world.result)
    c.slots_world-world.ensures.world
    (some-of c.args.holder holder (λ h. IsSmall (ad_frames h.request.now.ad)) c.in-Some.is small) ads)
