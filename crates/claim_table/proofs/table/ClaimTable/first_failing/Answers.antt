use Rattle.std.proofs.Common.{◌≡◌, ℕ, ◌∙◌, All, Contains, ap, arith, get_or, if◌then◌else◌, length, subst, suc, sym, take, true}
use borrow.Author.Count.{below_more}
use Rattle.ad_tree.specs.Ad.{ad_frames}
use Rattle.eval_scope.specs.Shown.{world_of}
use Rattle.eval_scope.specs.World.{PlainWorld}
use Rattle.dock_match.specs.Docks.{is_last_decided, last_ad}
use Rattle.dock_match.proofs.DockingLemmas.{ad-looked, dock-next, docked-few, last-docked}
use Rattle.dock_match.proofs.SmallLemmas.{slots-small}
use Rattle.claim_table.specs.Claims.{entered_in, passes, world_at}
use Rattle.claim_table.specs.Scenes.{settings_in, stock_in}
use Rattle.claim_table.specs.Table.{jobs_of}
use Rattle.claim_table.proofs.FailingLemmas.{all-pass, counted-most, counted-within, docked-at, docked-ports, docked-request, docked-some, first-found}
use Rattle.claim_table.proofs.FailingLemmas.{upto-next}
use Rattle.claim_table.proofs.table.ClaimTable.first_failing.Goals as goal

pub look-ad-requires : goal.look-ad-requires
look-ad-requires g c =
    let all = subst (All (Contains (stock_in c.args.scene.now).slots)) (sym c.offer-slots.ensures) c.requires.offered in
    all c.loop-slot.slot-index 0 c.loop-slot-test.true

pub dock-requires : goal.dock-requires
dock-requires g c =
    let scene = c.args.scene.now in
    let slots = c.offer-slots.result.now in
    let few = ap {B = ℕ} length c.offer-slots.ensures in
    docked-few scene.moment (stock_in scene) scene.job.now.request slots c.loop-slot.slot-index (world_of c.loop-slot.world) c.loop-slot.invariant.world
    c.loop-slot-test.true (omega (arith, few, c.requires.few))

pub passes-requires-clause-request : goal.passes-requires-clause-request
passes-requires-clause-request g c =
    let scene = c.args.scene.now in
    let slots = take c.loop-slot.slot-index c.offer-slots.result.now in
    docked-request scene.moment (stock_in scene) scene.job.now.request slots (world_of c.loop-slot.world) (world_of c.dock.new.self)
    (ad_frames c.look-ad.result.now) c.loop-slot.invariant.world c.dock.ensures

pub passes-requires-clause-ports : goal.passes-requires-clause-ports
passes-requires-clause-ports g c =
    let scene = c.args.scene.now in
    let slots = take c.loop-slot.slot-index c.offer-slots.result.now in
    docked-ports scene.moment (stock_in scene) scene.job.now.request slots (world_of c.loop-slot.world) (world_of c.dock.new.self)
    (ad_frames c.look-ad.result.now) c.loop-slot.invariant.world c.dock.ensures

pub passes-requires-clause-docked : goal.passes-requires-clause-docked
passes-requires-clause-docked g c = docked-some (world_of c.loop-slot.world) (world_of c.dock.new.self) (ad_frames c.look-ad.result.now) c.dock.ensures

pub passes-requires-clause-last : goal.passes-requires-clause-last
passes-requires-clause-last g c = ap last_ad c.dock.ensures ∙ last-docked (world_of c.loop-slot.world) (ad_frames c.look-ad.result.now)

pub returns-in_err-passes-clause-spent : goal.returns-in_err-passes-clause-spent
returns-in_err-passes-clause-spent g c =
    let scene = c.args.scene.now in
    let stock = stock_in scene in
    let request = scene.job.now.request in
    let slots = c.offer-slots.result.now in
    let i = c.loop-slot.slot-index in
    let v = world_of c.dock.new.self in
    let all = subst (All (Contains stock.slots)) (sym c.offer-slots.ensures) c.requires.offered in
    let looked = ad-looked stock (get_or slots i 0) (ad_frames c.look-ad.result.now) (all i 0 c.loop-slot-test.true) c.look-ad.ensures.ad in
    let world =
    docked-at scene.moment stock request slots i (world_of c.loop-slot.world) v (ad_frames c.look-ad.result.now) c.loop-slot-test.true
    c.loop-slot.invariant.world looked c.dock.ensures in
    let few = ap {B = ℕ} length c.offer-slots.ensures in
    let evaluated =
    counted-within scene.moment stock scene.job.now slots c.offer-slots.ensures (λ slot world. if is_last_decided world then 0 else 1) i v
    c.loop-slot-test.true world in
    let entered =
    counted-within scene.moment stock scene.job.now slots c.offer-slots.ensures
    (entered_in scene.moment stock (settings_in scene) (jobs_of c.args.self.now)) i v c.loop-slot-test.true world in
    record {
      same = record {
        tops = c.passes.ensures.spent.same.tops ∙ c.loop-slot.invariant.spent.same.tops;
        entry = c.passes.ensures.spent.same.entry ∙ c.loop-slot.invariant.spent.same.entry;
        touch = c.passes.ensures.spent.same.touch ∙ c.loop-slot.invariant.spent.same.touch;
      };
      most_evaluations = omega (arith, evaluated, c.loop-slot.invariant.spent.most_evaluations, c.passes.ensures.spent.most_evaluations);
      most_entries = omega (arith, entered, c.loop-slot.invariant.spent.most_entries, c.passes.ensures.spent.most_entries);
      most_looks =
          omega (arith, few, c.loop-slot-test.true, c.loop-slot.invariant.spent.most_looks, c.look-ad.ensures.counted, c.passes.ensures.spent.most_looks);
    }

pub returns-in_err-passes-clause-ratio : goal.returns-in_err-passes-clause-ratio
returns-in_err-passes-clause-ratio g c small ads jobs =
    let scene = c.args.scene.now in
    let stock = stock_in scene in
    let request = scene.job.now.request in
    let slots = c.offer-slots.result.now in
    let i = c.loop-slot.slot-index in
    let v = world_of c.dock.new.self in
    let all = subst (All (Contains stock.slots)) (sym c.offer-slots.ensures) c.requires.offered in
    let looked = ad-looked stock (get_or slots i 0) (ad_frames c.look-ad.result.now) (all i 0 c.loop-slot-test.true) c.look-ad.ensures.ad in
    let world =
    docked-at scene.moment stock request slots i (world_of c.loop-slot.world) v (ad_frames c.look-ad.result.now) c.loop-slot-test.true
    c.loop-slot.invariant.world looked c.dock.ensures in
    let worlds = slots-small scene.moment stock request (take (suc i) slots) _ world small ads in
    omega (arith, c.loop-slot.invariant.ratio small ads jobs, c.passes.ensures.ratio worlds ads jobs)

pub returns-then-not-branch-clause-failing : goal.returns-then-not-branch-clause-failing
returns-then-not-branch-clause-failing g c =
    let scene = c.args.scene.now in
    let stock = stock_in scene in
    let request = scene.job.now.request in
    let slots = c.offer-slots.result.now in
    let i = c.loop-slot.slot-index in
    let v = world_of c.dock.new.self in
    let all = subst (All (Contains stock.slots)) (sym c.offer-slots.ensures) c.requires.offered in
    let looked = ad-looked stock (get_or slots i 0) (ad_frames c.look-ad.result.now) (all i 0 c.loop-slot-test.true) c.look-ad.ensures.ad in
    let world =
    docked-at scene.moment stock request slots i (world_of c.loop-slot.world) v (ad_frames c.look-ad.result.now) c.loop-slot-test.true
    c.loop-slot.invariant.world looked c.dock.ensures in
    let here =
    ap (passes scene.moment stock (settings_in scene) (jobs_of c.args.self.now) scene.number (get_or slots i 0)) (sym world)
    ∙ sym c.in_ok-passes.ensures.passes ∙ c.if-not-branch.true in
    first-found scene.moment stock (settings_in scene) (jobs_of c.args.self.now) scene.number scene.job.now slots c.offer-slots.ensures i
    c.loop-slot-test.true c.loop-slot.invariant.passed here

pub returns-then-not-branch-clause-spent : goal.returns-then-not-branch-clause-spent
returns-then-not-branch-clause-spent g c =
    let scene = c.args.scene.now in
    let stock = stock_in scene in
    let request = scene.job.now.request in
    let slots = c.offer-slots.result.now in
    let i = c.loop-slot.slot-index in
    let v = world_of c.dock.new.self in
    let all = subst (All (Contains stock.slots)) (sym c.offer-slots.ensures) c.requires.offered in
    let looked = ad-looked stock (get_or slots i 0) (ad_frames c.look-ad.result.now) (all i 0 c.loop-slot-test.true) c.look-ad.ensures.ad in
    let world =
    docked-at scene.moment stock request slots i (world_of c.loop-slot.world) v (ad_frames c.look-ad.result.now) c.loop-slot-test.true
    c.loop-slot.invariant.world looked c.dock.ensures in
    let few = ap {B = ℕ} length c.offer-slots.ensures in
    let evaluated =
    counted-within scene.moment stock scene.job.now slots c.offer-slots.ensures (λ slot world. if is_last_decided world then 0 else 1) i v
    c.loop-slot-test.true world in
    let entered =
    counted-within scene.moment stock scene.job.now slots c.offer-slots.ensures
    (entered_in scene.moment stock (settings_in scene) (jobs_of c.args.self.now)) i v c.loop-slot-test.true world in
    record {
      same = record {
        tops = c.passes.ensures.spent.same.tops ∙ c.loop-slot.invariant.spent.same.tops;
        entry = c.passes.ensures.spent.same.entry ∙ c.loop-slot.invariant.spent.same.entry;
        touch = c.passes.ensures.spent.same.touch ∙ c.loop-slot.invariant.spent.same.touch;
      };
      most_evaluations = omega (arith, evaluated, c.loop-slot.invariant.spent.most_evaluations, c.passes.ensures.spent.most_evaluations);
      most_entries = omega (arith, entered, c.loop-slot.invariant.spent.most_entries, c.passes.ensures.spent.most_entries);
      most_looks =
          omega (arith, few, c.loop-slot-test.true, c.loop-slot.invariant.spent.most_looks, c.look-ad.ensures.counted, c.passes.ensures.spent.most_looks);
    }

pub returns-then-not-branch-clause-ratio : goal.returns-then-not-branch-clause-ratio
returns-then-not-branch-clause-ratio g c small ads jobs =
    let scene = c.args.scene.now in
    let stock = stock_in scene in
    let request = scene.job.now.request in
    let slots = c.offer-slots.result.now in
    let i = c.loop-slot.slot-index in
    let v = world_of c.dock.new.self in
    let all = subst (All (Contains stock.slots)) (sym c.offer-slots.ensures) c.requires.offered in
    let looked = ad-looked stock (get_or slots i 0) (ad_frames c.look-ad.result.now) (all i 0 c.loop-slot-test.true) c.look-ad.ensures.ad in
    let world =
    docked-at scene.moment stock request slots i (world_of c.loop-slot.world) v (ad_frames c.look-ad.result.now) c.loop-slot-test.true
    c.loop-slot.invariant.world looked c.dock.ensures in
    let worlds = slots-small scene.moment stock request (take (suc i) slots) _ world small ads in
    omega (arith, c.loop-slot.invariant.ratio small ads jobs, c.passes.ensures.ratio worlds ads jobs)

pub loop-slot-preserved : goal.loop-slot-preserved
loop-slot-preserved g c =
    let scene = c.args.scene.now in
    let stock = stock_in scene in
    let request = scene.job.now.request in
    let slots = c.offer-slots.result.now in
    let i = c.loop-slot.slot-index in
    let v = world_of c.dock.new.self in
    let all = subst (All (Contains stock.slots)) (sym c.offer-slots.ensures) c.requires.offered in
    let looked = ad-looked stock (get_or slots i 0) (ad_frames c.look-ad.result.now) (all i 0 c.loop-slot-test.true) c.look-ad.ensures.ad in
    let world =
    docked-at scene.moment stock request slots i (world_of c.loop-slot.world) v (ad_frames c.look-ad.result.now) c.loop-slot-test.true
    c.loop-slot.invariant.world looked c.dock.ensures in
    let here =
    ap (passes scene.moment stock (settings_in scene) (jobs_of c.args.self.now) scene.number (get_or slots i 0)) (sym world)
    ∙ sym c.in_ok-passes.ensures.passes ∙ c.if-not-branch.false in
    let undecided : ℕ → PlainWorld → ℕ = λ slot u. if is_last_decided u then 0 else 1 in
    let entered : ℕ → PlainWorld → ℕ = entered_in scene.moment stock (settings_in scene) (jobs_of c.args.self.now) in
    let evaluated = upto-next scene.moment stock request slots undecided i in
    let evaluations = ap (undecided (get_or slots i 0)) world in
    let entries = ap (entered (get_or slots i 0)) world in
    let attributes = upto-next scene.moment stock request slots entered i in
    let spent = c.loop-slot.invariant.spent in
    let passing = c.passes.ensures.spent in
    record {
      world =
          dock-next scene.moment stock request slots i 0 (world_of c.loop-slot.world) v (ad_frames c.look-ad.result.now) c.loop-slot-test.true
          c.loop-slot.invariant.world looked c.dock.ensures;
      passed =
          below_more (λ k. passes scene.moment stock (settings_in scene) (jobs_of c.args.self.now) scene.number (get_or slots k 0)
          (world_at scene.moment stock request slots k) ≡ true) i c.loop-slot.invariant.passed here;
      spent = record {
        same = record {
          tops = passing.same.tops ∙ spent.same.tops;
          entry = passing.same.entry ∙ spent.same.entry;
          touch = passing.same.touch ∙ spent.same.touch;
        };
        most_evaluations = omega (arith, evaluated, evaluations, spent.most_evaluations, passing.most_evaluations);
        most_entries = omega (arith, attributes, entries, spent.most_entries, passing.most_entries);
        most_looks = omega (arith, spent.most_looks, passing.most_looks, c.look-ad.ensures.counted);
      };
      ratio = λ small ads jobs.
          let worlds = slots-small scene.moment stock request (take (suc i) slots) _ world small ads in
          omega (arith, c.loop-slot.invariant.ratio small ads jobs, c.passes.ensures.ratio worlds ads jobs);
    }

pub returns-clause-failing : goal.returns-clause-failing
returns-clause-failing g c =
    let scene = c.args.scene.now in
    all-pass scene.moment (stock_in scene) (settings_in scene) (jobs_of c.args.self.now) scene.number scene.job.now
    c.offer-slots.result.now c.offer-slots.ensures c.loop-slot.slot-index c.loop-slot-test.false c.loop-slot.invariant.passed

pub returns-clause-spent : goal.returns-clause-spent
returns-clause-spent g c =
    let scene = c.args.scene.now in
    let stock = stock_in scene in
    let slots = c.offer-slots.result.now in
    let ended = c.loop-slot.auto.slot-index-end in
    let few = ap {B = ℕ} length c.offer-slots.ensures in
    let evaluated =
    counted-most scene.moment stock scene.job.now slots c.offer-slots.ensures (λ slot world. if is_last_decided world then 0 else 1)
    c.loop-slot.slot-index ended in
    let entered =
    counted-most scene.moment stock scene.job.now slots c.offer-slots.ensures
    (entered_in scene.moment stock (settings_in scene) (jobs_of c.args.self.now)) c.loop-slot.slot-index ended in
    record {
      same = c.loop-slot.invariant.spent.same;
      most_evaluations = omega (arith, evaluated, c.loop-slot.invariant.spent.most_evaluations);
      most_entries = omega (arith, entered, c.loop-slot.invariant.spent.most_entries);
      most_looks = omega (arith, few, ended, c.loop-slot.invariant.spent.most_looks);
    }
