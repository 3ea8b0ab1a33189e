use Rattle.std.proofs.Common.{◌<◌, ◌*◌, ◌∙◌, All, List, ℕ, ap, get_or, length, option_map, refl, sym, subst, arith}
use Rattle.dock_match.specs.Pool.{slot_at}
use Rattle.bilateral_match.specs.Members.{earlier}
use Rattle.bilateral_match.specs.Scan.{attributes_for, evaluations_for, member_above, member_at}
use Rattle.bilateral_match.specs.Scenes.{pool_in, request_in, stock_in}
use Rattle.bilateral_match.proofs.BarLemmas.{earlier-above}
use Rattle.bilateral_match.proofs.LoopLemmas.{grows}
use Rattle.bilateral_match.proofs.MemberScanLemmas.{first-ends, first-free, first-grows, first-within, found-best, slot-free}
use Rattle.pool_steps.proofs.MeterLemmas.{same-on}
use Rattle.bilateral_match.proofs.MeterLemmas.{searched, spent-ends, spent-stays}
use Rattle.bilateral_match.proofs.choosing.best_knowing.Goals as goal

-- ---- before the loop

pub returns-in_err-ranking-clause-known : goal.returns-in_err-ranking-clause-known
returns-in_err-ranking-clause-known g c =
    let scene = c.args.scene.now in
    c.take.ensures.kept scene.moment (stock_in scene).ads
    (record { ranks = c.requires.known.ranks; tests = c.candidates_knowing.ensures.known })

pub loop-place-init : goal.loop-place-init
loop-place-init g c =
    let scene = c.args.scene.now in
    record {
      first = refl;
      same = record { tops = refl; entry = refl; touch = refl };
      evaluations = omega arith;
      entries = omega arith;
      ratio = λ small ads holders. omega arith;
      looks = omega arith;
      saved = omega (arith, c.begin.ensures);
      ranks = c.in_ok-ranking.ensures.ranking scene.moment (stock_in scene).ads
          (record { ranks = c.requires.known.ranks; tests = c.candidates_knowing.ensures.known });
    }

-- ---- in the loop

pub member_at-requires-clause-place : goal.member_at-requires-clause-place
member_at-requires-clause-place g c =
    subst (λ (places : List ℕ). All (λ place. place < length (stock_in c.args.scene.now).slots) places) (sym c.as_slice-place-items.ensures)
    c.in_ok-places.ensures.held c.loop-place.place-index 0 c.loop-place-test.true

pub returns-in_err-next-clause-known : goal.returns-in_err-next-clause-known
returns-in_err-next-clause-known g c =
    let scene = c.args.scene.now in
    c.take.ensures.kept scene.moment (stock_in scene).ads
    (record { ranks = c.requires.known.ranks; tests = c.candidates_knowing.ensures.known })

pub returns-in_err-next-clause-spent : goal.returns-in_err-next-clause-spent
returns-in_err-next-clause-spent g c =
    let scene = c.args.scene.now in
    let pool = pool_in g.H.Holdings.is_offered g.H.Holdings.holding scene in
    let request = request_in scene in
    let places = c.in_ok-places.places in
    let so_far = c.loop-place.invariant in
    searched pool request places c.in_ok-places.ensures.places
    (spent-stays (evaluations_for pool request) (attributes_for pool request) c.as_slice-place-items.result.now places
    c.as_slice-place-items.ensures c.loop-place.place-index (9 * c.loop-place.place-index) (9 * length places) c.args.meter.now
    c.loop-place.meter so_far.same so_far.evaluations so_far.entries so_far.looks c.member_at.new.meter 9 c.loop-place-test.true
    (omega (arith, c.loop-place-test.true, ap length c.as_slice-place-items.ensures)) c.member_at.ensures.spent)

pub returns-in_err-next-clause-ratio : goal.returns-in_err-next-clause-ratio
returns-in_err-next-clause-ratio g c request ads holders =
    omega (arith, c.loop-place.invariant.ratio request ads holders, c.member_at.ensures.ratio request ads holders)

pub returns-in_err-next-clause-saved : goal.returns-in_err-next-clause-saved
returns-in_err-next-clause-saved g c =
    let few = c.in_ok-places.ensures.places.few in
    omega (
      arith,
      few,
      ap length c.as_slice-place-items.ensures,
      c.loop-place-test.true,
      c.loop-place.invariant.saved,
      c.member_at.ensures.saved,
    )

pub loop-place-preserved : goal.loop-place-preserved
loop-place-preserved g c =
    let scene = c.args.scene.now in
    let pool = pool_in g.H.Holdings.is_offered g.H.Holdings.holding scene in
    let request = request_in scene in
    let items = c.as_slice-place-items.result.now in
    let same-places = c.as_slice-place-items.ensures in
    let places = c.in_ok-places.places in
    let here = member_at pool request scene.number (get_or items c.loop-place.place-index 0) in
    let so_far = c.loop-place.invariant in
    let spent = c.member_at.ensures.spent in
    record {
      first = first-grows (member_at pool request scene.number) items c.loop-place.place-index c.loop-place.first c.earlier-first.result here
          c.loop-place-test.true so_far.first refl
          (c.earlier-first.ensures
          ∙ ap (earlier c.loop-place.first) c.in_ok-next.ensures.member
          ∙ ap (λ bar. earlier c.loop-place.first (member_above bar here)) c.rank_of-bar.ensures
          ∙ earlier-above c.loop-place.first here);
      same = same-on so_far.same spent.same;
      evaluations = grows (evaluations_for pool request) items places same-places c.loop-place.place-index
          c.args.meter.now.tops.now c.loop-place.meter.tops.now c.member_at.new.meter.tops.now so_far.evaluations c.loop-place-test.true
          spent.most_evaluations;
      entries = grows (attributes_for pool request) items places same-places c.loop-place.place-index
          c.args.meter.now.entry.now c.loop-place.meter.entry.now c.member_at.new.meter.entry.now so_far.entries c.loop-place-test.true
          spent.most_entries;
      ratio = λ small ads holders. omega (arith, so_far.ratio small ads holders, c.member_at.ensures.ratio small ads holders);
      looks = omega (arith, so_far.looks, spent.most_looks);
      saved = omega (arith, so_far.saved, c.member_at.ensures.saved);
      ranks = c.member_at.ensures.ranks;
    }

-- ---- behind it

pub returns-in_err-keep-clause-known : goal.returns-in_err-keep-clause-known
returns-in_err-keep-clause-known g c =
    let scene = c.args.scene.now in
    let ads = (stock_in scene).ads in
    c.keep.ensures scene.moment ads (c.take.ensures.kept scene.moment ads
    (record { ranks = c.requires.known.ranks; tests = c.candidates_knowing.ensures.known })) c.loop-place.invariant.ranks

pub returns-clause-known : goal.returns-clause-known
returns-clause-known g c =
    let scene = c.args.scene.now in
    let ads = (stock_in scene).ads in
    c.keep.ensures scene.moment ads (c.take.ensures.kept scene.moment ads
    (record { ranks = c.requires.known.ranks; tests = c.candidates_knowing.ensures.known })) c.loop-place.invariant.ranks

pub returns-in_err-keep-clause-spent : goal.returns-in_err-keep-clause-spent
returns-in_err-keep-clause-spent g c =
    let scene = c.args.scene.now in
    let pool = pool_in g.H.Holdings.is_offered g.H.Holdings.holding scene in
    let request = request_in scene in
    let places = c.in_ok-places.places in
    let so_far = c.loop-place.invariant in
    searched pool request places c.in_ok-places.ensures.places
    (spent-ends (evaluations_for pool request) (attributes_for pool request) c.as_slice-place-items.result.now places
    c.as_slice-place-items.ensures c.loop-place.place-index (9 * c.loop-place.place-index) (9 * length places) c.args.meter.now
    c.loop-place.meter so_far.same so_far.evaluations so_far.entries so_far.looks c.loop-place-test.false
    (omega (arith, c.loop-place.auto.place-index-end, ap length c.as_slice-place-items.ensures)))

pub returns-clause-spent : goal.returns-clause-spent
returns-clause-spent g c =
    let scene = c.args.scene.now in
    let pool = pool_in g.H.Holdings.is_offered g.H.Holdings.holding scene in
    let request = request_in scene in
    let places = c.in_ok-places.places in
    let so_far = c.loop-place.invariant in
    searched pool request places c.in_ok-places.ensures.places
    (spent-ends (evaluations_for pool request) (attributes_for pool request) c.as_slice-place-items.result.now places
    c.as_slice-place-items.ensures c.loop-place.place-index (9 * c.loop-place.place-index) (9 * length places) c.args.meter.now
    c.loop-place.meter so_far.same so_far.evaluations so_far.entries so_far.looks c.loop-place-test.false
    (omega (arith, c.loop-place.auto.place-index-end, ap length c.as_slice-place-items.ensures)))

pub returns-in_err-keep-clause-saved : goal.returns-in_err-keep-clause-saved
returns-in_err-keep-clause-saved g c =
    let few = c.in_ok-places.ensures.places.few in
    omega (arith, few, ap length c.as_slice-place-items.ensures, c.loop-place.auto.place-index-end, c.loop-place.invariant.saved)

pub returns-clause-saved : goal.returns-clause-saved
returns-clause-saved g c =
    let few = c.in_ok-places.ensures.places.few in
    omega (arith, few, ap length c.as_slice-place-items.ensures, c.loop-place.auto.place-index-end, c.loop-place.invariant.saved)

pub slot_of-requires : goal.slot_of-requires
slot_of-requires g c =
    let scene = c.args.scene.now in
    let pool = pool_in g.H.Holdings.is_offered g.H.Holdings.holding scene in
    let request = request_in scene in
    let places = c.in_ok-places.places in
    let best =
    first-ends (member_at pool request scene.number) c.as_slice-place-items.result.now c.loop-place.place-index places c.loop-place.first
    c.as_slice-place-items.ensures c.loop-place-test.false c.loop-place.invariant.first in
    first-within pool request scene.number (length (stock_in scene).slots) places c.loop-place.first best c.in_ok-places.ensures.held

pub returns-clause-best : goal.returns-clause-best
returns-clause-best g c =
    let scene = c.args.scene.now in
    let pool = pool_in g.H.Holdings.is_offered g.H.Holdings.holding scene in
    let request = request_in scene in
    let places = c.in_ok-places.places in
    let best =
    first-ends (member_at pool request scene.number) c.as_slice-place-items.result.now c.loop-place.place-index places c.loop-place.first
    c.as_slice-place-items.ensures c.loop-place-test.false c.loop-place.invariant.first in
    c.slot_of.ensures.slot
    ∙ ap (option_map (λ m. slot_at (stock_in scene) m.place))
    (found-best pool request places c.in_ok-places.ensures.places scene.number c.loop-place.first best)

pub returns-clause-free : goal.returns-clause-free
returns-clause-free g c =
    let scene = c.args.scene.now in
    let pool = pool_in g.H.Holdings.is_offered g.H.Holdings.holding scene in
    let request = request_in scene in
    let places = c.in_ok-places.places in
    let best =
    first-ends (member_at pool request scene.number) c.as_slice-place-items.result.now c.loop-place.place-index places c.loop-place.first
    c.as_slice-place-items.ensures c.loop-place-test.false c.loop-place.invariant.first in
    slot-free (stock_in scene) (g.H.Holdings.is_offered scene.held.now) c.loop-place.first c.slot_of.result
    (first-free pool request scene.number places c.loop-place.first best) c.slot_of.ensures.slot
