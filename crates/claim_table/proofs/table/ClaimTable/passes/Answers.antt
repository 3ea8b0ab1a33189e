use Rattle.std.proofs.Common.{◌≡◌, ◌∙◌, ℕ, Bool, ap, arith, false, if◌then◌else◌, refl, sym}
use Rattle.ad_tree.specs.Ad.{ad_frames}
use Rattle.eval_scope.specs.Shown.{world_of}
use Rattle.conjunct_plan.specs.Tests.{labels_of}
use Rattle.dock_match.specs.Docks.{is_last_decided}
use Rattle.dock_match.proofs.MetLemmas.{none-undecided, some-undecided}
use Rattle.claim_table.specs.Scenes.{settings_in, stock_in}
use Rattle.claim_table.specs.Table.{jobs_of}
use Rattle.claim_table.proofs.PassingLemmas.{decided-fails, decided-here, docked-wins, entered-open, frame-here, open-here, undocked-fails}
use Rattle.claim_table.proofs.table.ClaimTable.passes.Goals as goal

pub open_sides-requires : goal.open_sides-requires
open_sides-requires g c =
    frame-here (world_of c.args.world.now) c.args.scene.now.job.now.request c.request_place.result c.request_place.ensures c.requires.ports

pub returns-in_default-clause-passes : goal.returns-in_default-clause-passes
returns-in_default-clause-passes g c =
    let scene = c.args.scene.now in
    let w = world_of c.args.world.now in
    let request = scene.job.now.request in
    let decided =
    decided-here w request (ad_frames c.args.ad.now) c.request_place.result c.request_place.ensures c.requires.request c.requires.ports c.requires.last in
    decided-fails scene.moment (stock_in scene) (settings_in scene) (jobs_of c.args.self.now) scene.number c.args.slot w c.requires.docked
    (sym decided ∙ none-undecided (ad_frames request.ad) c.request_place.result.frame (labels_of request.ports) (ad_frames c.args.ad.now)
    (sym c.open_sides.ensures ∙ c.in_default.is))

pub returns-in_default-clause-spent : goal.returns-in_default-clause-spent
returns-in_default-clause-spent g c = record {
  same = record { tops = refl; entry = refl; touch = refl };
  most_evaluations = omega arith;
  most_entries = omega arith;
  most_looks = omega arith;
}

pub dock-requires-clause-left : goal.dock-requires-clause-left
dock-requires-clause-left g c =
    sym (open-here (world_of c.args.world.now) c.args.scene.now.job.now.request (ad_frames c.args.ad.now) c.request_place.result c.request_place.ensures
    c.requires.request c.requires.ports c.requires.last)
    ∙ sym c.open_sides.ensures
    ∙ c.in-Some.is

pub returns-in_err-dock-clause-spent : goal.returns-in_err-dock-clause-spent
returns-in_err-dock-clause-spent g c =
    let scene = c.args.scene.now in
    let w = world_of c.args.world.now in
    let request = scene.job.now.request in
    let decided =
    decided-here w request (ad_frames c.args.ad.now) c.request_place.result c.request_place.ensures c.requires.request c.requires.ports c.requires.last in
    let undecided : is_last_decided w ≡ false =
    sym decided ∙ some-undecided (ad_frames request.ad) c.request_place.result.frame (labels_of request.ports) (ad_frames c.args.ad.now) c.in-Some.sides
    (sym c.open_sides.ensures ∙ c.in-Some.is) in
    let one = ap {B = ℕ} (λ (b : Bool). if b then 0 else 1) undecided in
    let entered = entered-open scene.moment (stock_in scene) (settings_in scene) (jobs_of c.args.self.now) c.args.slot w undecided in
    record {
      same = record { tops = refl; entry = refl; touch = refl };
      most_evaluations = omega (arith, one, c.dock.ensures.evaluations);
      most_entries = omega (arith, entered, c.dock.ensures.entries);
      most_looks = omega arith;
    }

pub returns-in_err-dock-clause-ratio : goal.returns-in_err-dock-clause-ratio
returns-in_err-dock-clause-ratio g c world ads jobs = omega (arith, c.dock.ensures.ratio world)

pub returns-then-not-branch-clause-passes : goal.returns-then-not-branch-clause-passes
returns-then-not-branch-clause-passes g c =
    let scene = c.args.scene.now in
    undocked-fails scene.moment (stock_in scene) (settings_in scene) (jobs_of c.args.self.now) scene.number c.args.slot (world_of c.args.world.now)
    (sym c.in_ok-dock.ensures.value ∙ c.if-not-branch.true)

pub returns-then-not-branch-clause-spent : goal.returns-then-not-branch-clause-spent
returns-then-not-branch-clause-spent g c =
    let scene = c.args.scene.now in
    let w = world_of c.args.world.now in
    let request = scene.job.now.request in
    let decided =
    decided-here w request (ad_frames c.args.ad.now) c.request_place.result c.request_place.ensures c.requires.request c.requires.ports c.requires.last in
    let undecided : is_last_decided w ≡ false =
    sym decided ∙ some-undecided (ad_frames request.ad) c.request_place.result.frame (labels_of request.ports) (ad_frames c.args.ad.now) c.in-Some.sides
    (sym c.open_sides.ensures ∙ c.in-Some.is) in
    let one = ap {B = ℕ} (λ (b : Bool). if b then 0 else 1) undecided in
    let entered = entered-open scene.moment (stock_in scene) (settings_in scene) (jobs_of c.args.self.now) c.args.slot w undecided in
    record {
      same = record { tops = refl; entry = refl; touch = refl };
      most_evaluations = omega (arith, one, c.dock.ensures.evaluations);
      most_entries = omega (arith, entered, c.dock.ensures.entries);
      most_looks = omega arith;
    }

pub returns-then-not-branch-clause-ratio : goal.returns-then-not-branch-clause-ratio
returns-then-not-branch-clause-ratio g c world ads jobs = omega (arith, c.dock.ensures.ratio world)

pub returns-clause-passes : goal.returns-clause-passes
returns-clause-passes g c =
    let scene = c.args.scene.now in
    docked-wins c.wins.result scene.moment (stock_in scene) (settings_in scene) (jobs_of c.args.self.now) scene.number c.args.slot (world_of c.args.world.now)
    (sym c.in_ok-dock.ensures.value ∙ c.if-not-branch.false) c.wins.ensures.won

pub returns-clause-spent : goal.returns-clause-spent
returns-clause-spent g c =
    let scene = c.args.scene.now in
    let w = world_of c.args.world.now in
    let request = scene.job.now.request in
    let decided =
    decided-here w request (ad_frames c.args.ad.now) c.request_place.result c.request_place.ensures c.requires.request c.requires.ports c.requires.last in
    let undecided : is_last_decided w ≡ false =
    sym decided ∙ some-undecided (ad_frames request.ad) c.request_place.result.frame (labels_of request.ports) (ad_frames c.args.ad.now) c.in-Some.sides
    (sym c.open_sides.ensures ∙ c.in-Some.is) in
    let one = ap {B = ℕ} (λ (b : Bool). if b then 0 else 1) undecided in
    let entered = entered-open scene.moment (stock_in scene) (settings_in scene) (jobs_of c.args.self.now) c.args.slot w undecided in
    record {
      same = record {
        tops = c.wins.ensures.spent.same.tops;
        entry = c.wins.ensures.spent.same.entry;
        touch = c.wins.ensures.spent.same.touch;
      };
      most_evaluations = omega (arith, one, c.dock.ensures.evaluations, c.wins.ensures.spent.most_evaluations);
      most_entries = omega (arith, entered, c.dock.ensures.entries, c.wins.ensures.spent.most_entries);
      most_looks = c.wins.ensures.spent.most_looks;
    }

pub returns-clause-ratio : goal.returns-clause-ratio
returns-clause-ratio g c world ads jobs = omega (arith, c.dock.ensures.ratio world, c.wins.ensures.ratio world ads jobs)
