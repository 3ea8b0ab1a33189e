use Rattle.std.proofs.Common.{arith, refl, ◌∙◌}
use Rattle.std.specs.List.{flat_map}
use Rattle.ad_store.specs.Store.{stock_of}
use Rattle.ad_tree.specs.Ad.{ad_frames}
use Rattle.significant_attrs.specs.Names.{asked_by}
use Rattle.significant_attrs.specs.Shown.{ads_in}
use Rattle.significant_attrs.proofs.AddLemmas.{added, get-map}
use Rattle.significant_attrs.proofs.reach.asked_names.Goals as goal

pub loop-i-preserved : goal.loop-i-preserved
loop-i-preserved g c = record {
  names =
      added (flat_map asked_by) asked_by (λ x xs. refl) (ads_in (stock_of c.args.store.now).ads) c.loop-i.i (ad_frames c.look-ad.result.now) c.loop-i.names
      c.add_asked.new.names _
      (get-map (λ a. a.ad) (stock_of c.args.store.now).ads c.loop-i.i ∙ c.look-ad.ensures.ad c.loop-i.i c.at.ensures.place) c.in_ok-add_asked.ensures
      c.loop-i.invariant.names;
  looks = omega (arith, c.look-ad.ensures.counted, c.loop-i.invariant.looks);
}
