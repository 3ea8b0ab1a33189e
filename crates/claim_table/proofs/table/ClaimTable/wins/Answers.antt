use Rattle.std.proofs.Common.{◌∙◌, ℕ, Option, ap, arith, not, refl, rules}
use Rattle.std.specs.Int.{w128}
use Rattle.std.specs.Option.{option_map_or}
use Rattle.std.proofs.lemmas.Int.{to_z-of_z}
use mir.Val.{SFits, of_z, to_z}
use Rattle.ad_eval.specs.Dock.{rank_by}
use Rattle.ad_store.specs.Holdings.{Holding}
use Rattle.eval_scope.specs.Shown.{world_of}
use Rattle.eval_scope.specs.World.{attribute_count}
use Rattle.dock_match.specs.Pool.{holder_world}
use Rattle.dock_match.proofs.PreemptionLemmas.{holder-stands, holder-stored}
use Rattle.dock_match.proofs.SmallLemmas.{holder-small}
use Rattle.claim_table.specs.Holders.{holder_of}
use Rattle.claim_table.specs.Scenes.{settings_in, stock_in}
use Rattle.claim_table.specs.Table.{jobs_of}
use Rattle.claim_table.proofs.PassingLemmas.{holders-stored, unclaimed-won, won-is}
use Rattle.claim_table.proofs.SmallLemmas.{holders-small}
use Rattle.claim_table.proofs.table.ClaimTable.wins.Goals as goal

pub returns-then-is_none-clause-won : goal.returns-then-is_none-clause-won
returns-then-is_none-clause-won g c =
    let scene = c.args.scene.now in
    unclaimed-won scene.moment (stock_in scene) (settings_in scene) (jobs_of c.args.self.now) scene.number c.args.slot (world_of c.args.world.now)
    c.holder-holder.result (c.is_none.ensures ∙ ap not c.if-is_none.true) c.holder-holder.ensures.who

pub returns-then-is_none-clause-spent : goal.returns-then-is_none-clause-spent
returns-then-is_none-clause-spent g c = record {
  same = record { tops = refl; entry = refl; touch = refl };
  most_evaluations = omega arith;
  most_entries = omega arith;
  most_looks = omega arith;
}

pub returns-then-is_none-clause-ratio : goal.returns-then-is_none-clause-ratio
returns-then-is_none-clause-ratio g c world ads jobs = omega arith

pub returns-in_err-regard-clause-spent : goal.returns-in_err-regard-clause-spent
returns-in_err-regard-clause-spent g c = record {
  same = record { tops = refl; entry = refl; touch = refl };
  most_evaluations = omega (arith, c.rank.ensures.evaluations);
  most_entries = omega (arith, c.rank.ensures.entries);
  most_looks = omega arith;
}

pub won_from-requires-clause-stored : goal.won_from-requires-clause-stored
won_from-requires-clause-stored g c =
    let stock = stock_in c.args.scene.now in
    let settings = settings_in c.args.scene.now in
    let jobs = jobs_of c.args.self.now in
    holder-stored stock (holder_of settings jobs) c.args.slot c.holder-holder.result (holders-stored stock settings jobs c.requires) c.holder-holder.ensures.who

pub won_from-requires-clause-stands : goal.won_from-requires-clause-stands
won_from-requires-clause-stands g c =
    let scene = c.args.scene.now in
    holder-stands (stock_in scene) (holder_of (settings_in scene) (jobs_of c.args.self.now)) c.args.slot c.holder-holder.result c.holder-holder.ensures.stands

pub returns-in_err-regard-clause-ratio : goal.returns-in_err-regard-clause-ratio
returns-in_err-regard-clause-ratio g c world ads jobs = omega (arith, c.rank.ensures.ratio world)

pub returns-clause-spent : goal.returns-clause-spent
returns-clause-spent g c =
    let moment = c.args.scene.now.moment in
    let stock = stock_in c.args.scene.now in
    let held =
    ap {B = ℕ} (λ (holders : Option Holding). option_map_or (λ holding. attribute_count (holder_world moment stock holding)) holders 0)
    c.holder-holder.ensures.who in
    let spent = c.won_from.ensures.spent in
    record {
      same = record { tops = spent.same.tops; entry = spent.same.entry; touch = spent.same.touch };
      most_evaluations = omega (arith, c.rank.ensures.evaluations, spent.most_evaluations);
      most_entries = omega (arith, held, c.rank.ensures.entries, spent.most_entries);
      most_looks = spent.most_looks;
    }

pub returns-clause-ratio : goal.returns-clause-ratio
returns-clause-ratio g c world ads jobs =
    let settings = settings_in c.args.scene.now in
    let table = jobs_of c.args.self.now in
    let small =
    holder-small (holder_of settings table) c.args.slot c.holder-holder.result c.holder-holder.ensures.who (holders-small settings table jobs) in
    omega (arith, c.rank.ensures.ratio world, c.won_from.ensures.ratio small ads)

pub returns-clause-won : goal.returns-clause-won
returns-clause-won g c =
    let scene = c.args.scene.now in
    let fits : SFits w128 c.in_ok-regard.regard = search rules in
    let w = world_of c.args.world.now in
    let given = to_z-of_z w128 c.in_ok-regard.regard fits ∙ c.in_ok-regard.ensures.value ∙ ap (rank_by w) c.resource_place.ensures in
    c.is_some.ensures
    ∙ won-is scene.moment (stock_in scene) (settings_in scene) (jobs_of c.args.self.now) scene.number c.args.slot w c.holder-holder.result
    (to_z w128 (of_z w128 c.in_ok-regard.regard)) c.in_ok-won.won c.holder-holder.ensures.who given c.in_ok-won.ensures.won

pub returns-in_err-won-clause-spent : goal.returns-in_err-won-clause-spent
returns-in_err-won-clause-spent g c =
    let moment = c.args.scene.now.moment in
    let stock = stock_in c.args.scene.now in
    let held =
    ap {B = ℕ} (λ (holders : Option Holding). option_map_or (λ holding. attribute_count (holder_world moment stock holding)) holders 0)
    c.holder-holder.ensures.who in
    let spent = c.won_from.ensures.spent in
    record {
      same = record { tops = spent.same.tops; entry = spent.same.entry; touch = spent.same.touch };
      most_evaluations = omega (arith, c.rank.ensures.evaluations, spent.most_evaluations);
      most_entries = omega (arith, held, c.rank.ensures.entries, spent.most_entries);
      most_looks = spent.most_looks;
    }

pub returns-in_err-won-clause-ratio : goal.returns-in_err-won-clause-ratio
returns-in_err-won-clause-ratio g c world ads jobs =
    let settings = settings_in c.args.scene.now in
    let table = jobs_of c.args.self.now in
    let small =
    holder-small (holder_of settings table) c.args.slot c.holder-holder.result c.holder-holder.ensures.who (holders-small settings table jobs) in
    omega (arith, c.rank.ensures.ratio world, c.won_from.ensures.ratio small ads)
