use Rattle.std.proofs.Common.{◌≡◌, ◌≤◌, ◌+◌, ◌-◌, ◌*◌, IfOk, ap, arith, get_or, length, refl, subst, sym, ◌∙◌}
use Rattle.std.proofs.Common.{Option}
use Rattle.std.specs.Option.{option_map_or}
use Rattle.std.proofs.lemmas.List.{length-take-le}
use Rattle.pool_text.specs.declared.language.AdPlace.{AdPlace}
use Rattle.ad_tree.specs.Ad.{ad_frames}
use Rattle.ad_store.specs.Store.{stock_of}
use Rattle.ad_eval.specs.Dock.{is_docked}
use Rattle.conjunct_plan.specs.Tests.{labels_of}
use Rattle.eval_scope.specs.Shown.{world_of}
use Rattle.eval_scope.specs.World.{PlainWorld, attribute_count, request_side}
use Rattle.dock_match.specs.declared.sides.OpenSides.{OpenSides}
use Rattle.dock_match.specs.Docks.{evaluations_of_last, evaluations_of_sides, is_last_decided}
use Rattle.dock_match.specs.Pool.{slots_world}
use Rattle.dock_match.proofs.DockingLemmas.{ad-looked, few-slots, frame-there, most-undecided, none-docked, pair-decided, pair-open, pair-world, room-for-last}
use Rattle.dock_match.proofs.MetLemmas.{none-undecided, some-undecided}
use Rattle.dock_match.proofs.SmallLemmas.{slots-small}
use Rattle.dock_match.proofs.docking.pair.Goals as goal

pub slots_world-before-requires-clause-few : goal.slots_world-before-requires-clause-few
slots_world-before-requires-clause-few g c =
    let slots = c.args.slots.now in
    let few = few-slots (ad_frames c.args.request.now.ad) c.args.request.now.ports (length slots) c.args.request.now.are_ports c.requires.fit in
    let some = c.requires.some in
    let long = length-take-le (length slots - 1) slots (omega (arith, some)) in
    omega (arith, few, some, long)

pub with-world-requires : goal.with-world-requires
with-world-requires g c =
    let slots = c.args.slots.now in
    let few = few-slots (ad_frames c.args.request.now.ad) c.args.request.now.ports (length slots) c.args.request.now.are_ports c.requires.fit in
    room-for-last c.args.moment (stock_of c.args.store.now) c.args.request.now slots (world_of c.slots_world-before.result) few c.requires.some
    c.slots_world-before.ensures.world

pub open_sides-requires : goal.open_sides-requires
open_sides-requires g c =
    let stock = stock_of c.args.store.now in
    let request = c.args.request.now in
    let slots = c.args.slots.now in
    let last = length slots - 1 in
    let some = c.requires.some in
    let looked = ad-looked stock (get_or slots last 0) (ad_frames c.look-ad.result.now) (c.requires.stored last 0 (omega (arith, some))) c.look-ad.ensures.ad in
    let world =
    pair-world c.args.moment stock request slots some last refl (world_of c.slots_world-before.result) (world_of c.with-world.result)
    (ad_frames c.look-ad.result.now) c.slots_world-before.ensures.world looked c.with-world.ensures in
    let there =
    frame-there (ad_frames request.ad) request.ports (length (slots_world c.args.moment stock request slots).docked) request.are_ports
    request.ad.is_ad.root in
    let at = ap (λ (place : AdPlace). place.frame) (c.request_place.ensures ∙ ap request_side world) in
    omega (arith, at, there)

pub returns-in_default-clause-docked : goal.returns-in_default-clause-docked
returns-in_default-clause-docked g c =
    let stock = stock_of c.args.store.now in
    let request = c.args.request.now in
    let slots = c.args.slots.now in
    let last = length slots - 1 in
    let some = c.requires.some in
    let looked = ad-looked stock (get_or slots last 0) (ad_frames c.look-ad.result.now) (c.requires.stored last 0 (omega (arith, some))) c.look-ad.ensures.ad in
    let decided =
    pair-decided c.args.moment stock request slots some last refl (world_of c.slots_world-before.result) (world_of c.with-world.result)
    (ad_frames c.look-ad.result.now) c.slots_world-before.ensures.world looked c.with-world.ensures c.request_place.result c.request_place.ensures in
    sym (none-docked c.args.moment stock request slots some
    (sym decided ∙ none-undecided (ad_frames request.ad) c.request_place.result.frame (labels_of request.ports) (ad_frames c.look-ad.result.now) (sym
    c.open_sides.ensures ∙ c.in_default.is)))

pub dock-requires-clause-left : goal.dock-requires-clause-left
dock-requires-clause-left g c =
    let stock = stock_of c.args.store.now in
    let request = c.args.request.now in
    let slots = c.args.slots.now in
    let last = length slots - 1 in
    let some = c.requires.some in
    let looked = ad-looked stock (get_or slots last 0) (ad_frames c.look-ad.result.now) (c.requires.stored last 0 (omega (arith, some))) c.look-ad.ensures.ad in
    let left =
    pair-open c.args.moment stock request slots some last refl (world_of c.slots_world-before.result) (world_of c.with-world.result)
    (ad_frames c.look-ad.result.now) c.slots_world-before.ensures.world looked c.with-world.ensures c.request_place.result c.request_place.ensures in
    sym left ∙ sym c.open_sides.ensures ∙ c.in-Some.is

pub returns-clause-docked : goal.returns-clause-docked
returns-clause-docked g c =
    let stock = stock_of c.args.store.now in
    let request = c.args.request.now in
    let slots = c.args.slots.now in
    let last = length slots - 1 in
    let some = c.requires.some in
    let looked = ad-looked stock (get_or slots last 0) (ad_frames c.look-ad.result.now) (c.requires.stored last 0 (omega (arith, some))) c.look-ad.ensures.ad in
    let world =
    pair-world c.args.moment stock request slots some last refl (world_of c.slots_world-before.result) (world_of c.with-world.result)
    (ad_frames c.look-ad.result.now) c.slots_world-before.ensures.world looked c.with-world.ensures in
    subst (λ (w : PlainWorld). IfOk c.dock.result (λ b. b ≡ is_docked w)) world c.dock.ensures.value

pub returns-clause-evaluations : goal.returns-clause-evaluations
returns-clause-evaluations g c =
    let stock = stock_of c.args.store.now in
    let request = c.args.request.now in
    let slots = c.args.slots.now in
    let last = length slots - 1 in
    let some = c.requires.some in
    let looked = ad-looked stock (get_or slots last 0) (ad_frames c.look-ad.result.now) (c.requires.stored last 0 (omega (arith, some))) c.look-ad.ensures.ad in
    let decided =
    pair-decided c.args.moment stock request slots some last refl (world_of c.slots_world-before.result) (world_of c.with-world.result)
    (ad_frames c.look-ad.result.now) c.slots_world-before.ensures.world looked c.with-world.ensures c.request_place.result c.request_place.ensures in
    most-undecided (is_last_decided (slots_world c.args.moment stock request slots)) 2 c.args.tops.now c.dock.new.tops
    (sym decided ∙ some-undecided (ad_frames request.ad) c.request_place.result.frame (labels_of request.ports) (ad_frames
    c.look-ad.result.now) c.in-Some.sides (sym c.open_sides.ensures ∙ c.in-Some.is)) c.dock.ensures.evaluations

pub returns-clause-entries : goal.returns-clause-entries
returns-clause-entries g c =
    let stock = stock_of c.args.store.now in
    let request = c.args.request.now in
    let slots = c.args.slots.now in
    let last = length slots - 1 in
    let some = c.requires.some in
    let looked = ad-looked stock (get_or slots last 0) (ad_frames c.look-ad.result.now) (c.requires.stored last 0 (omega (arith, some))) c.look-ad.ensures.ad in
    let world =
    pair-world c.args.moment stock request slots some last refl (world_of c.slots_world-before.result) (world_of c.with-world.result)
    (ad_frames c.look-ad.result.now) c.slots_world-before.ensures.world looked c.with-world.ensures in
    let decided =
    pair-decided c.args.moment stock request slots some last refl (world_of c.slots_world-before.result) (world_of c.with-world.result)
    (ad_frames c.look-ad.result.now) c.slots_world-before.ensures.world looked c.with-world.ensures c.request_place.result c.request_place.ensures in
    most-undecided (is_last_decided (slots_world c.args.moment stock request slots)) (2 * attribute_count (slots_world c.args.moment stock request slots))
    c.args.entry.now c.dock.new.entry (sym decided ∙ some-undecided (ad_frames request.ad) c.request_place.result.frame (labels_of
    request.ports) (ad_frames c.look-ad.result.now) c.in-Some.sides (sym c.open_sides.ensures ∙ c.in-Some.is))
    (subst (λ (w : PlainWorld). c.dock.new.entry ≤ c.args.entry.now + 2 * attribute_count w) world c.dock.ensures.entries)

pub returns-clause-ratio : goal.returns-clause-ratio
returns-clause-ratio g c small ads =
    let stock = stock_of c.args.store.now in
    let request = c.args.request.now in
    let slots = c.args.slots.now in
    let last = length slots - 1 in
    let some = c.requires.some in
    let looked = ad-looked stock (get_or slots last 0) (ad_frames c.look-ad.result.now) (c.requires.stored last 0 (omega (arith, some))) c.look-ad.ensures.ad in
    let world =
    pair-world c.args.moment stock request slots some last refl (world_of c.slots_world-before.result) (world_of c.with-world.result)
    (ad_frames c.look-ad.result.now) c.slots_world-before.ensures.world looked c.with-world.ensures in
    c.dock.ensures.ratio (slots-small c.args.moment stock request slots (world_of c.with-world.result) world small ads)

pub returns-clause-counted : goal.returns-clause-counted
returns-clause-counted g c =
    let stock = stock_of c.args.store.now in
    let request = c.args.request.now in
    let slots = c.args.slots.now in
    let last = length slots - 1 in
    let some = c.requires.some in
    let looked = ad-looked stock (get_or slots last 0) (ad_frames c.look-ad.result.now) (c.requires.stored last 0 (omega (arith, some))) c.look-ad.ensures.ad in
    let world =
    pair-world c.args.moment stock request slots some last refl (world_of c.slots_world-before.result) (world_of c.with-world.result)
    (ad_frames c.look-ad.result.now) c.slots_world-before.ensures.world looked c.with-world.ensures in
    let left =
    pair-open c.args.moment stock request slots some last refl (world_of c.slots_world-before.result) (world_of c.with-world.result)
    (ad_frames c.look-ad.result.now) c.slots_world-before.ensures.world looked c.with-world.ensures c.request_place.result c.request_place.ensures in
    let w = world_of c.with-world.result in
    subst (λ (w : PlainWorld). c.dock.new.tops ≤ c.args.tops.now + evaluations_of_last w) world
    (subst (λ (o : Option OpenSides). c.dock.new.tops ≤ c.args.tops.now + option_map_or (evaluations_of_sides w) o 0)
    (sym (sym left ∙ sym c.open_sides.ensures ∙ c.in-Some.is)) c.dock.ensures.counted)
