use Rattle.std.proofs.Common.{◌<◌, ◌*◌, ◌∙◌, All, List, ℕ, ap, get_or, length, sym, subst, arith}
use Rattle.bilateral_match.specs.Scan.{attributes_for, evaluations_for, member_at}
use Rattle.bilateral_match.specs.Scenes.{pool_in, request_in, stock_in}
use Rattle.bilateral_match.proofs.BarLemmas.{no-bar}
use Rattle.bilateral_match.proofs.LoopLemmas.{finds-all, finds-next, grows}
use Rattle.pool_steps.proofs.MeterLemmas.{same-on}
use Rattle.bilateral_match.proofs.MeterLemmas.{spent-ends, spent-stays}
use Rattle.bilateral_match.proofs.shortlists.members_at.Goals as goal

pub member_at-requires-clause-place : goal.member_at-requires-clause-place
member_at-requires-clause-place g c =
    subst (λ (places : List ℕ). All (λ place. place < length (stock_in c.args.scene.now).slots) places) (sym c.as_slice-place-items.ensures)
    c.requires.places c.loop-place.place-index 0 c.loop-place-test.true

pub returns-in_err-next-clause-spent : goal.returns-in_err-next-clause-spent
returns-in_err-next-clause-spent g c =
    let scene = c.args.scene.now in
    let pool = pool_in g.H.Holdings.is_offered g.H.Holdings.holding scene in
    let request = request_in scene in
    let so_far = c.loop-place.invariant in
    spent-stays (evaluations_for pool request) (attributes_for pool request) c.as_slice-place-items.result.now c.args.places.now
    c.as_slice-place-items.ensures c.loop-place.place-index (9 * c.loop-place.place-index) (9 * length c.args.places.now) c.args.meter.now
    c.loop-place.meter so_far.same so_far.evaluations so_far.entries so_far.looks c.member_at.new.meter 9 c.loop-place-test.true
    (omega (arith, c.loop-place-test.true, ap length c.as_slice-place-items.ensures)) c.member_at.ensures.spent

pub returns-in_err-keep-clause-spent : goal.returns-in_err-keep-clause-spent
returns-in_err-keep-clause-spent g c =
    let scene = c.args.scene.now in
    let pool = pool_in g.H.Holdings.is_offered g.H.Holdings.holding scene in
    let request = request_in scene in
    let so_far = c.loop-place.invariant in
    spent-stays (evaluations_for pool request) (attributes_for pool request) c.as_slice-place-items.result.now c.args.places.now
    c.as_slice-place-items.ensures c.loop-place.place-index (9 * c.loop-place.place-index) (9 * length c.args.places.now) c.args.meter.now
    c.loop-place.meter so_far.same so_far.evaluations so_far.entries so_far.looks c.member_at.new.meter 9 c.loop-place-test.true
    (omega (arith, c.loop-place-test.true, ap length c.as_slice-place-items.ensures)) c.member_at.ensures.spent

pub returns-in_err-next-clause-ratio : goal.returns-in_err-next-clause-ratio
returns-in_err-next-clause-ratio g c request ads holders =
    omega (arith, c.loop-place.invariant.ratio request ads holders, c.member_at.ensures.ratio request ads holders)

pub returns-in_err-keep-clause-ratio : goal.returns-in_err-keep-clause-ratio
returns-in_err-keep-clause-ratio g c request ads holders =
    omega (arith, c.loop-place.invariant.ratio request ads holders, c.member_at.ensures.ratio request ads holders)

pub loop-place-preserved : goal.loop-place-preserved
loop-place-preserved g c =
    let scene = c.args.scene.now in
    let pool = pool_in g.H.Holdings.is_offered g.H.Holdings.holding scene in
    let request = request_in scene in
    let places = c.as_slice-place-items.result.now in
    let so_far = c.loop-place.invariant in
    let spent = c.member_at.ensures.spent in
    record {
      found = finds-next (member_at pool request scene.number) places c.loop-place.place-index c.loop-place.found.items c.keep.new.found.items
          c.in_ok-next.next c.loop-place-test.true so_far.found
          (c.in_ok-next.ensures.member ∙ no-bar (member_at pool request scene.number (get_or places c.loop-place.place-index 0))) c.in_ok-keep.ensures;
      same = same-on so_far.same spent.same;
      evaluations = grows (evaluations_for pool request) places c.args.places.now c.as_slice-place-items.ensures c.loop-place.place-index
          c.args.meter.now.tops.now c.loop-place.meter.tops.now c.member_at.new.meter.tops.now so_far.evaluations c.loop-place-test.true
          spent.most_evaluations;
      entries = grows (attributes_for pool request) places c.args.places.now c.as_slice-place-items.ensures c.loop-place.place-index
          c.args.meter.now.entry.now c.loop-place.meter.entry.now c.member_at.new.meter.entry.now so_far.entries c.loop-place-test.true spent.most_entries;
      ratio = λ small ads holders. omega (arith, so_far.ratio small ads holders, c.member_at.ensures.ratio small ads holders);
      looks = omega (arith, so_far.looks, spent.most_looks);
      ranks = c.member_at.ensures.ranks;
    }

pub returns-clause-found : goal.returns-clause-found
returns-clause-found g c =
    let scene = c.args.scene.now in
    let pool = pool_in g.H.Holdings.is_offered g.H.Holdings.holding scene in
    let request = request_in scene in
    finds-all (member_at pool request scene.number) c.as_slice-place-items.result.now c.loop-place.place-index c.args.places.now c.loop-place.found.items
    c.as_slice-place-items.ensures c.loop-place-test.false c.loop-place.invariant.found

pub returns-clause-spent : goal.returns-clause-spent
returns-clause-spent g c =
    let scene = c.args.scene.now in
    let pool = pool_in g.H.Holdings.is_offered g.H.Holdings.holding scene in
    let request = request_in scene in
    let so_far = c.loop-place.invariant in
    spent-ends (evaluations_for pool request) (attributes_for pool request) c.as_slice-place-items.result.now c.args.places.now
    c.as_slice-place-items.ensures c.loop-place.place-index (9 * c.loop-place.place-index) (9 * length c.args.places.now) c.args.meter.now
    c.loop-place.meter so_far.same so_far.evaluations so_far.entries so_far.looks c.loop-place-test.false
    (omega (arith, c.loop-place.auto.place-index-end, ap length c.as_slice-place-items.ensures))
