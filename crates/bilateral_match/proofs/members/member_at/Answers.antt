use Rattle.std.proofs.Common.{◌≡◌, IfOk, Option, Some, ap, arith, option_map, rules, slice_get, subst, sym, ◌∙◌}
use Rattle.std.specs.Option.{option_map_or}
use Rattle.std.proofs.lemmas.Int.{to_z-of_z}
use Rattle.std.specs.Int.{w128}
use mir.Val.{SFits, of_z, to_z}
use Rattle.ad_tree.specs.Ad.{ad_frames}
use Rattle.ad_store.specs.Holdings.{holding_of}
use Rattle.eval_scope.specs.World.{attribute_count}
use Rattle.dock_match.specs.declared.preemption.Preemption.{Preemption}
use Rattle.dock_match.specs.Pool.{hold_of, holder_world, pool_of}
use Rattle.dock_match.specs.Preemption.{won_from}
use Rattle.dock_match.proofs.PreemptionLemmas.{holder-stands, holder-stored}
use Rattle.dock_match.proofs.SmallLemmas.{found-small, holder-small}
use Rattle.bilateral_match.specs.declared.member.Member.{Member}
use Rattle.bilateral_match.specs.Known.{is_known_below}
use Rattle.bilateral_match.specs.Scan.{member_above, ranks_of_dock, where_won}
use Rattle.bilateral_match.specs.Scenes.{pool_in, request_in, stock_in}
use Rattle.bilateral_match.proofs.BarLemmas.{none-above, ranks-there, won-above}
use Rattle.bilateral_match.proofs.KnownLemmas.{below-known, known-is}
use Rattle.bilateral_match.proofs.MemberWeighLemmas.{are-ranks, attributes-in-all, attributes-of-dock, five-in-all, four-of-five, none-dead, none-offered}
use Rattle.bilateral_match.proofs.MemberWeighLemmas.{won-by, won-or-lost}
use Rattle.bilateral_match.proofs.members.member_at.Goals as goal

pub returns-then-is_known_below-clause-member : goal.returns-then-is_known_below-clause-member
returns-then-is_known_below-clause-member g c =
    let scene = c.args.scene.now in
    let pool = pool_in g.H.Holdings.is_offered g.H.Holdings.holding scene in
    let request = request_in scene in
    below-known pool request scene.number c.args.place c.args.bar c.args.ranking.now.ranks.items c.requires.ranks
    (ap (is_known_below c.args.bar) (sym c.at-known.ensures) ∙ sym c.if-is_known_below.ensures)

pub returns-then-offered-clause-member : goal.returns-then-offered-clause-member
returns-then-offered-clause-member g c =
    let scene = c.args.scene.now in
    let stock = stock_in scene in
    let offered = g.H.Holdings.is_offered scene.held.now in
    let holding = g.H.Holdings.holding scene.held.now in
    let request = request_in scene in
    ap (member_above c.args.bar) (none-offered scene.moment stock offered holding request c.args.place c.at-slot.result c.at-slot.ensures.place
    scene.number (sym c.offered.ensures ∙ c.if-offered.true) (slice_get stock.ads c.args.place))

pub returns-then-not-is_live-clause-member : goal.returns-then-not-is_live-clause-member
returns-then-not-is_live-clause-member g c =
    let scene = c.args.scene.now in
    let stock = stock_in scene in
    let offered = g.H.Holdings.is_offered scene.held.now in
    let holding = g.H.Holdings.holding scene.held.now in
    let request = request_in scene in
    ap (member_above c.args.bar) (none-dead scene.moment stock offered holding request c.args.place c.at-slot.result c.at-slot.ensures.place
    scene.number (slice_get stock.ads c.args.place)
    (c.is_live.ensures c.args.place c.at-slot.ensures.place ∙ ap Some c.if-not-is_live.true))

pub returns-in_err-weighed-clause-ratio : goal.returns-in_err-weighed-clause-ratio
returns-in_err-weighed-clause-ratio g c request ads holders =
    c.ranks.ensures.ratio request (found-small (stock_in c.args.scene.now).ads c.args.place (ad_frames c.look-ad.result.now) ads
    (c.look-ad.ensures.ad c.args.place c.at-slot.ensures.place))

pub returns-in_default-clause-member : goal.returns-in_default-clause-member
returns-in_default-clause-member g c =
    let scene = c.args.scene.now in
    let pool = pool_in g.H.Holdings.is_offered g.H.Holdings.holding scene in
    let request = request_in scene in
    none-above pool request scene.number c.args.place c.args.bar (ad_frames c.look-ad.result.now) (slice_get pool.ads c.args.place)
    (c.look-ad.ensures.ad c.args.place c.at-slot.ensures.place) (sym c.in_default.is ∙ c.in_ok-weighed.ensures.ranks)

pub returns-in_default-clause-ratio : goal.returns-in_default-clause-ratio
returns-in_default-clause-ratio g c request ads holders =
    c.ranks.ensures.ratio request (found-small (stock_in c.args.scene.now).ads c.args.place (ad_frames c.look-ad.result.now) ads
    (c.look-ad.ensures.ad c.args.place c.at-slot.ensures.place))

pub returns-in_err-weighed-clause-spent : goal.returns-in_err-weighed-clause-spent
returns-in_err-weighed-clause-spent g c =
    let scene = c.args.scene.now in
    let stock = stock_in scene in
    let offered = g.H.Holdings.is_offered scene.held.now in
    let holding = g.H.Holdings.holding scene.held.now in
    let request = request_in scene in
    let ad = ad_frames c.look-ad.result.now in
    let slot = c.at-slot.result in
    let at = c.at-slot.ensures.place in
    let advert = slice_get stock.ads c.args.place in
    let there = c.look-ad.ensures.ad c.args.place at in
    let free = sym c.offered.ensures ∙ c.if-offered.false in
    let spent = c.ranks.ensures.spent in
    record {
      same = record { tops = spent.same.tops; entry = spent.same.entry; touch = spent.same.touch };
      most_evaluations =
          omega (arith, spent.most_evaluations, four-of-five scene.moment stock offered holding request c.args.place slot at ad free advert there);
      most_entries =
          omega (arith, spent.most_entries, attributes-of-dock scene.moment stock offered holding request c.args.place slot at ad free advert there);
      most_looks = omega (arith, spent.most_looks, c.look-ad.ensures.counted);
    }

pub returns-in_default-clause-spent : goal.returns-in_default-clause-spent
returns-in_default-clause-spent g c =
    let scene = c.args.scene.now in
    let stock = stock_in scene in
    let offered = g.H.Holdings.is_offered scene.held.now in
    let holding = g.H.Holdings.holding scene.held.now in
    let request = request_in scene in
    let ad = ad_frames c.look-ad.result.now in
    let slot = c.at-slot.result in
    let at = c.at-slot.ensures.place in
    let advert = slice_get stock.ads c.args.place in
    let there = c.look-ad.ensures.ad c.args.place at in
    let free = sym c.offered.ensures ∙ c.if-offered.false in
    let spent = c.ranks.ensures.spent in
    record {
      same = record { tops = spent.same.tops; entry = spent.same.entry; touch = spent.same.touch };
      most_evaluations =
          omega (arith, spent.most_evaluations, four-of-five scene.moment stock offered holding request c.args.place slot at ad free advert there);
      most_entries =
          omega (arith, spent.most_entries, attributes-of-dock scene.moment stock offered holding request c.args.place slot at ad free advert there);
      most_looks = omega (arith, spent.most_looks, c.look-ad.ensures.counted);
    }

pub returns-clause-spent : goal.returns-clause-spent
returns-clause-spent g c =
    let scene = c.args.scene.now in
    let stock = stock_in scene in
    let offered = g.H.Holdings.is_offered scene.held.now in
    let holding = g.H.Holdings.holding scene.held.now in
    let request = request_in scene in
    let ad = ad_frames c.look-ad.result.now in
    let slot = c.at-slot.result in
    let at = c.at-slot.ensures.place in
    let advert = slice_get stock.ads c.args.place in
    let there = c.look-ad.ensures.ad c.args.place at in
    let free = sym c.offered.ensures ∙ c.if-offered.false in
    let spent = c.ranks.ensures.spent in
    let taking = c.won_from-won.ensures.spent in
    let ranks =
    ranks-there c.args.bar (ranks_of_dock scene.moment request ad) c.in-Some.ranks (sym c.in-Some.is ∙ c.in_ok-weighed.ensures.ranks) in
    let taken = ap (λ h. option_map_or (λ h. attribute_count (holder_world scene.moment stock h)) h 0) (c.holder-holder.ensures.who) in
    record {
      same = record {
        tops = taking.same.tops ∙ spent.same.tops;
        entry = taking.same.entry ∙ spent.same.entry;
        touch = taking.same.touch ∙ spent.same.touch;
      };
      most_evaluations =
          omega (
            arith,
            spent.most_evaluations,
            taking.most_evaluations,
            five-in-all scene.moment stock offered holding request c.args.place slot at ad free advert c.in-Some.ranks there ranks.0,
          );
      most_entries =
          omega (
            arith,
            taken,
            spent.most_entries,
            taking.most_entries,
            attributes-in-all scene.moment stock offered holding request c.args.place slot at ad free advert c.in-Some.ranks there ranks.0,
          );
      most_looks = omega (arith, spent.most_looks, c.look-ad.ensures.counted, taking.most_looks);
    }

pub returns-clause-ratio : goal.returns-clause-ratio
returns-clause-ratio g c request ads holders =
    let scene = c.args.scene.now in
    let ad = ad_frames c.look-ad.result.now in
    let holding = g.H.Holdings.holding scene.held.now in
    omega (
      arith,
      c.ranks.ensures.ratio request (found-small (stock_in scene).ads c.args.place ad ads (c.look-ad.ensures.ad c.args.place c.at-slot.ensures.place)),
      c.won_from-won.ensures.ratio (holder-small holding c.at-slot.result c.holder-holder.result c.holder-holder.ensures.who holders) ads,
    )

pub returns-clause-member : goal.returns-clause-member
returns-clause-member g c =
    let fits : SFits w128 c.in-Some.ranks.regard = search rules in
    let scene = c.args.scene.now in
    let stock = stock_in scene in
    let offered = g.H.Holdings.is_offered scene.held.now in
    let holding = g.H.Holdings.holding scene.held.now in
    let request = request_in scene in
    let pool = pool_of scene.moment stock offered holding in
    let ad = ad_frames c.look-ad.result.now in
    let slot = c.at-slot.result in
    let at = c.at-slot.ensures.place in
    let given = to_z w128 (of_z w128 c.in-Some.ranks.regard) in
    let there = ranks-there c.args.bar (ranks_of_dock pool.moment request ad) c.in-Some.ranks (sym c.in-Some.is ∙ c.in_ok-weighed.ensures.ranks) in
    let ranks = there.0 in
    let regards = to_z-of_z w128 c.in-Some.ranks.regard fits ∙ (are-ranks scene.moment request ad c.in-Some.ranks (sym ranks)).2 in
    let won = won_from scene.number given (option_map (hold_of scene.moment stock) (option_map holding_of c.holder-holder.result)) in
    subst (λ (m : Option Member). IfOk c.where_won.result (λ member. member ≡ m))
    (won-above c.args.bar won c.in-Some.ranks c.args.place there.1
    ∙ ap (λ (w : Option Preemption). member_above c.args.bar (where_won w c.in-Some.ranks c.args.place))
    (won-by scene.moment stock offered holding request c.args.place slot at scene.number ad given (option_map holding_of c.holder-holder.result) regards
    c.holder-holder.ensures.who)
    ∙ ap (member_above c.args.bar) (won-or-lost scene.moment stock offered holding request c.args.place slot at scene.number ad
    (slice_get pool.ads c.args.place) c.in-Some.ranks
    (c.look-ad.ensures.ad c.args.place at) (c.is_live.ensures c.args.place at ∙ ap Some c.if-not-is_live.false) (sym c.offered.ensures ∙ c.if-offered.false)
    ranks))
    (c.where_won.ensures won c.won_from-won.ensures.won)

pub won_from-won-requires-clause-stored : goal.won_from-won-requires-clause-stored
won_from-won-requires-clause-stored g c =
    let scene = c.args.scene.now in
    holder-stored (stock_in scene) (g.H.Holdings.holding scene.held.now) c.at-slot.result c.holder-holder.result c.requires.stored
    c.holder-holder.ensures.who

pub won_from-won-requires-clause-stands : goal.won_from-won-requires-clause-stands
won_from-won-requires-clause-stands g c =
    let scene = c.args.scene.now in
    holder-stands (stock_in scene) (g.H.Holdings.holding scene.held.now) c.at-slot.result c.holder-holder.result c.holder-holder.ensures.stands

pub ranks-requires-clause-known : goal.ranks-requires-clause-known
ranks-requires-clause-known g c =
    let scene = c.args.scene.now in
    known-is scene.moment (stock_in scene).ads (request_in scene) (ad_frames c.look-ad.result.now) c.args.ranking.now.ranks.items c.args.place
    c.at-known.result c.requires.ranks (c.look-ad.ensures.ad c.args.place c.at-slot.ensures.place) c.at-known.ensures

pub returns-clause-ranks : goal.returns-clause-ranks
returns-clause-ranks g c =
    let scene = c.args.scene.now in
    c.note.ensures scene.moment (stock_in scene).ads c.requires.ranks (c.look-ad.ensures.ad c.args.place c.at-slot.ensures.place)
    c.in_ok-weighed.ensures.rank

pub returns-in_default-clause-ranks : goal.returns-in_default-clause-ranks
returns-in_default-clause-ranks g c =
    let scene = c.args.scene.now in
    c.note.ensures scene.moment (stock_in scene).ads c.requires.ranks (c.look-ad.ensures.ad c.args.place c.at-slot.ensures.place)
    c.in_ok-weighed.ensures.rank
