use Rattle.std.proofs.Common.{arith, get_or}
use Rattle.ad_tree.specs.Ad.{ad_frames}
use Rattle.ad_store.specs.Store.{stock_of}
use Rattle.eval_scope.specs.Shown.{world_of}
use Rattle.dock_match.proofs.DockingLemmas.{ad-looked, dock-all, dock-next, docked-few}
use Rattle.dock_match.proofs.docking.slots_world.Goals as goal

pub dock-requires : goal.dock-requires
dock-requires g c =
    docked-few c.args.moment (stock_of c.args.store.now) c.args.request.now c.args.slots.now c.loop-slot.slot-index (world_of c.loop-slot.world)
    c.loop-slot.invariant.world c.loop-slot-test.true c.requires.few

pub loop-slot-preserved : goal.loop-slot-preserved
loop-slot-preserved g c =
    let stock = stock_of c.args.store.now in
    let slot = get_or c.args.slots.now c.loop-slot.slot-index 0 in
    let looked = ad-looked stock slot (ad_frames c.look.result.now) (c.requires.stored c.loop-slot.slot-index 0 c.loop-slot-test.true) c.look.ensures.ad in
    record {
      world =
          dock-next c.args.moment stock c.args.request.now c.args.slots.now c.loop-slot.slot-index 0 (world_of c.loop-slot.world) (world_of c.dock.new.self)
          (ad_frames c.look.result.now) c.loop-slot-test.true c.loop-slot.invariant.world looked c.dock.ensures;
      looks = omega (arith, c.loop-slot.invariant.looks, c.look.ensures.counted);
    }

pub returns-clause-world : goal.returns-clause-world
returns-clause-world g c =
    dock-all c.args.moment (stock_of c.args.store.now) c.args.request.now c.args.slots.now c.loop-slot.slot-index (world_of c.loop-slot.world)
    c.loop-slot-test.false c.loop-slot.invariant.world

pub returns-clause-looks : goal.returns-clause-looks
returns-clause-looks g c = omega (arith, c.loop-slot.invariant.looks, c.loop-slot.auto.slot-index-end, c.loop-slot-test.false)
